-- The writing call: what its checks give to the functions that fill the outputs, and that these leave the defined bytes.
use mathlib.Core.Path.{◌≡◌, refl, sym, ◌∙◌, subst⁻¹}
use mathlib.Core.List.{List}
use mathlib.Core.Logic.{⊎_elim}
use Prim.Native.Nat.{ℕ, ◌+◌, ◌-◌, ◌*◌, ◌^◌, ◌≤◌, ◌<◌}
use native.Mathlib.Nat.{eq-zero-or-pos, one-le-pow, zero-add, zero-mul}
use native.Mathlib.Omega.{arith}
use lib.Dec.{lit<}
use lib.Pow.{pow_mono, pow_pos}
use lib.ListN.{length}
use Rattle.numbers.specs.Places.{put}
use Rattle.numbers.proofs.Lists.{put_fits}
use Rattle.numbers.proofs.Numbers.{field_size_le}
use Rattle.refusal.specs.declared.Refusal.{Refusal}
use Rattle.refusal.specs.Answer.{accepted, refused, refusal_of}
use Rattle.refusal.proofs.Answers.{refused_is}
use Rattle.node_info.specs.declared.Geometry.{Geometry}
use Rattle.node_info.specs.Capacity.{count_width}
use Rattle.plan.specs.declared.BTreeV2Plan.{BTreeV2Plan}
use Rattle.plan.specs.declared.PlanAndTable.{PlanAndTable}
use Rattle.std.specs.Prelude.{Result, Ok, Err}
use Rattle.plan.specs.Tree.{Tree, count, nodes, below, Everywhere}
use Rattle.plan.specs.Planned.{planned, plan_figures, plan_numbers, plan_answer_of, laid_answer_of}
use Rattle.plan.proofs.Accepted.{planned_none, planned_size}
use Rattle.plan.proofs.Checks.{Plannable, accepted_plannable}
use Rattle.plan.proofs.Depths.{depth_le, depth_small}
use Rattle.format.specs.Bytes.{address, header_bytes}
use Rattle.format.specs.declared.Request.{Request}
use Rattle.format.specs.Request.{depth_of, nodes_of, image_of, root_of, root_records_of, header_from}
use Rattle.write_checks.specs.Writing.{written, header_exit, image_exit}
use Rattle.format.specs.Fit.{Fit}
use Rattle.write_checks.proofs.Accepted.{Accepts, Roomy, accepts, roomy, plan_accepted}
use Rattle.write_checks.proofs.Fitting.{fits}
use Rattle.format.proofs.HeaderLengths.{length_header_from}
use Rattle.write_checks.proofs.Outputs.{header_left_lem, image_left_lem, header-put, image_put}
use Rattle.numbers.proofs.Copying.{over_stored}
use Rattle.btree_v2_write.specs.declared.node.Child.{Child}
use Rattle.btree_v2_write.specs.Subtrees.{subtree, subtree_nodes, subtree_image, RightBelow, Ready, SubtreeWritten}
use Rattle.write_checks.specs.Tests.{Checked}
use Rattle.btree_v2_write.specs.Call.{Accepted, Outputs, Wrote}
use Rattle.btree_v2_write.proofs.Internal.{address_fits}
use Rattle.btree_v2_write.proofs.Subtrees.{right_below}

empty_fits : (g : Geometry) → 10 ≤ g.node_size → Fit g 0 0
unfolding count
empty_fits g h = record { node = omega arith; records = one-le-pow (count_width g) 256 (lit< tt); small = omega arith; total = λ p. absurd (omega arith) }

-- An accepted write.
module _ {q : Request} {laid : PlanAndTable} {recs hdr img : List ℕ} (a : Accepted q laid recs hdr img) where
  abbrev p : BTreeV2Plan
  p = laid.plan

  ok : Accepts q recs
  ok = accepts q recs hdr img _ a.figures

  room : Roomy q hdr img
  room = roomy q recs hdr img _ a.figures

  known : Plannable q.record_count q.geometry × (◌≡◌ {A = List ℕ} (plan_numbers p) (plan_figures q.record_count q.geometry))
  known = accepted_plannable q.record_count q.geometry _ (plan_accepted q recs hdr img _ a.figures)

  depth_is : p.depth ≡ depth_of q
  unfolding plan_figures
  depth_is = let f = known.1 in cc

  ends : q.start + nodes_of q * q.geometry.node_size < 2 ^ 64
  ends =
      let w : 8 * q.geometry.offset_size ≤ 64 = omega (arith, field_size_le q.geometry.offset_size ok.offset) in
      omega (arith, ok.end, pow_mono w, pow_pos (8 * q.geometry.offset_size))

  -- The planned tree is the subtree that is written.
  tree_is : subtree q (depth_of q) q.record_count ≡ planned q.record_count q.geometry
  unfolding planned
  tree_is = refl

  nodes_at : subtree_nodes q (depth_of q) q.record_count ≡ nodes_of q
  unfolding nodes_of
  nodes_at = rw tree_is

  some_records : 1 ≤ depth_of q → 1 ≤ q.record_count
  some_records h = omega (arith, depth_small q.record_count q.geometry 0 (omega arith))

  -- Every node fits, an empty leaf too.
  all_fit : Everywhere (Fit q.geometry) (depth_of q) (planned q.record_count q.geometry)
  all_fit =
      ⊎_elim
      (λ (e : q.record_count ≡ 0). rw e (subst⁻¹ (λ (t : (d : ℕ) × Tree d). Everywhere (Fit q.geometry) t.0 t.1) (planned_none q.geometry) (empty_fits q.geometry known.0.pass.low)))
      (λ (some : 0 < q.record_count). fits q recs ok some)
      (eq-zero-or-pos q.record_count)

  -- Its records have bytes.
  pub sized : 0 < q.geometry.record_size
  sized = omega (arith, known.0.pass)

  -- The table is right of the levels below the root.
  pub table_right : RightBelow q laid.info p.depth
  table_right = right_below a.table (depth_le q.record_count q.geometry) (omega (arith, depth_is))

  -- The image can be written.
  pub image_ready : Ready q (length recs) (length img) p.depth q.record_count 0 0
  unfolding planned
  image_ready =
      rw depth_is
      (record {
        low = depth_le q.record_count q.geometry;
        few = omega (arith, known.0.pass);
        thick = λ deeper. (known.0.thick (some_records deeper));
        fits = rw tree_is all_fit;
        in_list = omega (arith, ok.records);
        room = rw nodes_at (omega (arith, room.image));
        short = rw nodes_at (omega (arith, ends));
      })

  -- What came up of the root.
  module _ {img' : List ℕ} {root : Child} (wrote : SubtreeWritten q recs img img' p.depth q.record_count 0 0 root) where
    done : SubtreeWritten q recs img img' (depth_of q) q.record_count 0 0 root
    done = rw depth_is at wrote

    image_done : img' ≡ image_exit q recs hdr img
    unfolding subtree_image image_of
    image_done =
        let same : subtree_image q recs (depth_of q) q.record_count 0 0 ≡ image_of q recs = rw tree_is in
        rw (image_put q recs hdr img _ a.figures, over_stored, ← same) (rw zero-mul at done.image)

    nodes_is : root.nodes ≡ nodes_of q
    nodes_is = done.child.nodes ∙ nodes_at

    pub root_some : 1 ≤ root.nodes
    unfolding nodes_of nodes
    root_some = omega (arith, nodes_is)

    pub root_short : q.start + (root.nodes - 1) * q.geometry.node_size < 2 ^ 64
    root_short =
        address_fits q.start 0 (nodes_of q) _ (omega (arith, known.0.pass)) (rw zero-add ends) _ (omega (arith, nodes_is))

    root_address : q.start + (root.nodes - 1) * q.geometry.node_size ≡ root_of q
    unfolding root_of address nodes_of nodes
    root_address =
        let e : root.nodes - 1 ≡ below (depth_of q) (planned q.record_count q.geometry) = omega (arith, nodes_is) in
        rw e

    -- The header goes where it fits.
    header_done : {z : List ℕ} {at : ℕ} → at ≡ q.start + (root.nodes - 1) * q.geometry.node_size
        → z ≡ put hdr 0 (header_bytes q p.depth at root.records root.total) → z ≡ header_exit q recs hdr img
    unfolding header_from root_records_of
    header_done {z} {at} place e =
        let records : root.records ≡ root_records_of q = rw tree_is at done.child.records in
        let total : root.total ≡ q.record_count = rw (tree_is, planned_size q.record_count q.geometry known.0) at done.child.total in
        let same : header_bytes q p.depth at root.records root.total ≡ header_from q =
        rw (place, depth_is, root_address, records, total) in
        let fits : length (header_from q) ≤ length hdr = rw length_header_from room.header in
        rw (header-put q recs hdr img _ a.figures, over_stored, e, same, put_fits hdr 0 (header_from q) (omega arith))

    pub both_done : {z : List ℕ} {at : ℕ} → at ≡ q.start + (root.nodes - 1) * q.geometry.node_size
        → z ≡ put hdr 0 (header_bytes q p.depth at root.records root.total)
        → Outputs q recs hdr img z img'
    both_done place e = record { header_left = header_done place e; image_left = image_done }

-- `write`, by its two ways out.
module _ {q : Request} (recs hdr img : List ℕ) {checked : Result PlanAndTable Refusal}
    (c : Checked q (record { records = length recs; header = length hdr; image = length img }) checked) where
  answer_is : laid_answer_of checked ≡ written q recs hdr img
  unfolding written
  answer_is = c.answered

  pub wrote_refused : {r : Refusal} → checked ≡ Err r → Wrote q recs hdr img (plan_answer_of (Err r)) hdr img
  wrote_refused {r} e =
      let s = refused_is r in
      let answered : refusal_of r ≡ written q recs hdr img = rw e at answer_is in
      let no_write : written q recs hdr img ≡ refused s.0 s.1 = sym answered ∙ s.2 in
      record {
        answered = answered;
        header_left = sym (header_left_lem q recs hdr img s.0 s.1 no_write);
        image_left = sym (image_left_lem q recs hdr img s.0 s.1 no_write);
      }

  module _ {laid : PlanAndTable} (e : checked ≡ Ok laid) where
    answered : accepted (plan_numbers laid.plan) ≡ written q recs hdr img
    answered = rw e at answer_is

    pub accepted_planned : Accepted q laid recs hdr img
    accepted_planned = record { figures = sym answered; table = rw e at c.table }

    pub wrote_accepted : {h i : List ℕ} → Outputs q recs hdr img h i → Wrote q recs hdr img (plan_answer_of (Ok laid.plan)) h i
    wrote_accepted outputs = record { answered = answered; header_left = outputs.header_left; image_left = outputs.image_left }
