-- Demand 3 on the three calls, from the complete return of records on the definitions.
use Rattle.std.specs.Prelude.{Result, Ok, Err, ⊤}
use mathlib.Core.Path.{◌≡◌, refl, sym, ◌∙◌, ap}
use mathlib.Core.Logic.{⊎_elim}
use mathlib.Core.List.{List, [], ◌∷◌, ◌++◌}
use Prim.Native.Nat.{ℕ, ◌-◌, ◌*◌, ◌≤◌, ◌<◌}
use native.Mathlib.Nat.{zero-mul, eq-zero-or-pos}
use native.Mathlib.Omega.{arith}
use lib.ListN.{length, get_or, take, drop, length-take, length-drop}
use lib.Seq.{take_at, drop_at}
use Rattle.std.proofs.lemmas.List.{nil_from_length}
use Rattle.numbers.specs.Numbers.{saturated, part}
use Rattle.refusal.specs.declared.Refusal.{Refusal}
use Rattle.refusal.specs.Answer.{Answer, accepted, refused, cells, verdict_of}
use Rattle.refusal.proofs.Answers.{refused_is}
use Rattle.plan.specs.declared.BTreeV2Plan.{BTreeV2Plan}
use Rattle.plan.specs.Tree
use Rattle.plan.specs.Planned.{plan_figures, plan_numbers, plan_answer_of}
use Rattle.plan.proofs.Checks.{Plannable, accepted_plannable}
use Rattle.format.specs.declared.Request.{Request}
use Rattle.format.specs.Bytes.{header_size, address}
use Rattle.format.specs.Request.{depth_of, tree_of, nodes_of, root_of, root_records_of, header_from, image_of}
use Rattle.write_checks.specs.Writing.{written, header_exit, image_exit}
use Rattle.numbers.specs.Places.{over}
use Rattle.btree_v2_collect.specs.Walk.{Counts, Run, fine, stopped, no_counts}
use Rattle.btree_v2_header.specs.Header.{header_figures, header_at, with_base, carrying, parsed_at}
use Rattle.btree_v2_header.proofs.Bases.{parsed_in_part}
use Rattle.btree_v2_collect.proofs.Bases.{collected_in_part, collected_based}
use Rattle.btree_v2_collect.specs.Collect.{collected, collected_at, run_cells, count_cells}
use Rattle.round_trip.specs.Return.{header_written, Returned}
use Rattle.write_checks.proofs.Accepted.{Accepts, accepts, plan_accepted}
use Rattle.write_checks.proofs.Fitting.{image_long}
use Rattle.format.proofs.HeaderLengths.{length_header_from}
use Rattle.write_checks.proofs.Outputs.{header-put, image_put}
use Rattle.round_trip.proofs.Returned.{returns, returns_header, returns_fields, returns_none}
use Rattle.btree_v2_header.specs.declared.BTreeV2Header.{BTreeV2Header}
use Rattle.btree_v2_collect.specs.declared.Tally.{Tally}
use Rattle.btree_v2_collect.specs.declared.Collected.{Collected}
use Rattle.btree_v2_header.specs.Answers.{header_answer_of, Parses}
use Rattle.btree_v2_collect.specs.Collecting.{nothing_read}
use Rattle.round_trip.specs.declared.RoundTrip.{RoundTrip}
use Rattle.round_trip.specs.Nodes.{node_records}
use Rattle.round_trip.specs.ThreeCalls.{Lent, part_of, on_parsed, Collects, Holds, NodesCounted, Complete, Answered}
use Rattle.btree_v2_write.specs.Call.{Wrote}
use Rattle.round_trip.proofs.Roots.{root_address, root_records_lem}

-- Collecting by the header reader's definition: the tree of the header there, or its refusal.
abbrev on_header : Answer → BTreeV2Header → List ℕ → List ℕ → Run
on_header (accepted figures) h file output = collected_at file h output
on_header (refused number values) h file output = stopped number values no_counts output

-- The header reader at the place, and the collector on its answer.
read_back : Request → Lent → Run
read_back q s =
    let ow = q.geometry.offset_size in
    let lw = q.length_size in
    on_header (parsed_at s.file s.base s.place ow lw) (with_base s.base (header_at (part_of s) s.place ow lw)) s.file s.output

-- An accepted walk's cells: the verdict accepts, and each count is the walk's, saturated.
record CellsSay (v : Result ⊤ Refusal) (t : Tally) (c : Counts) : Type 0 where
  verdict : verdict_of v ≡ accepted []
  records : t.records ≡ saturated c.records
  leaves : t.leaves ≡ saturated c.leaves
  internals : t.internals ≡ saturated c.internals
  internal_records : t.internal_records ≡ saturated c.internal_records

abbrev counted : Tally → List ℕ
counted t = t.records ∷ t.leaves ∷ t.internals ∷ t.internal_records ∷ []

cells_say : (v : Result ⊤ Refusal) (t : Tally) (c : Counts) → cells 3 (verdict_of v) ++ counted t ≡ cells 3 (accepted []) ++ count_cells c → CellsSay v t c
unfolding cells
cells_say (Ok tt) t c e = record { verdict = refl; records = cc; leaves = cc; internals = cc; internal_records = cc }
cells_say (Err r) t c e =
    let s = refused_is r in
    let f : cells 3 (refused s.0 s.1) ++ counted t ≡ cells 3 (accepted []) ++ count_cells c = rw s.2 at e in
    let z : s.0 ≡ 0 = ap (λ (l : List ℕ). get_or l 0 0) f in
    absurd (omega (arith, z, s.4))

-- The first bytes of a buffer with b at its front.
front_over : (b o : List ℕ) (n : ℕ) → length b ≡ n → take n (over b o) ≡ b
unfolding over
front_over b o n e = take_at b (drop (length b) o) n e

-- The numbers that an accepted write answered are the plan's.
record Figured (q : Request) (p : BTreeV2Plan) : Type 0 where
  depth : p.depth ≡ depth_of q
  nodes : p.nodes ≡ nodes_of q
  leaves : p.leaves ≡ Tree.leaves (depth_of q) (tree_of q)

figured : (q : Request) (p : BTreeV2Plan) → plan_numbers p ≡ plan_figures q.record_count q.geometry → Figured q p
unfolding plan_figures nodes_of
figured q p e = record { depth = cc; nodes = cc; leaves = cc }

-- An accepted write, a file that holds what it left, and an output that is long enough.
module _ (q : Request) (p : BTreeV2Plan) (s : Lent) (ok : written q s.records s.header s.image ≡ accepted (plan_numbers p))
    (small : q.geometry.record_size < 65536) (h i : List ℕ) (left : h ≡ header_exit q s.records s.header s.image)
    (image : i ≡ image_exit q s.records s.header s.image) (holds : Holds q p (part_of s) s.place h i)
    (long : q.record_count * q.geometry.record_size ≤ length s.output) where
  accept : Accepts q s.records
  accept = accepts q s.records s.header s.image (plan_numbers p) ok

  checked : Plannable q.record_count q.geometry × (plan_numbers p ≡ plan_figures q.record_count q.geometry)
  checked =
      accepted_plannable q.record_count q.geometry (plan_numbers p) (plan_accepted q s.records s.header s.image (plan_numbers p) ok)

  same : Figured q p
  same = figured q p checked.1

  few : q.record_count ≤ 16777215
  few = omega (arith, checked.0.pass)

  header_stands : part (part_of s) s.place (header_size q.geometry.offset_size q.length_size) ≡ header_from q
  header_stands =
      holds.header
      ∙ rw (left, header-put q s.records s.header s.image (plan_numbers p) ok)
      (front_over (header_from q) s.header (header_size q.geometry.offset_size q.length_size) (length_header_from q))

  -- The base is within the file, since the header stands behind it.
  within : s.base ≤ length s.file
  within =
      let stands : length (part (part_of s) s.place (header_size q.geometry.offset_size q.length_size)) ≡ header_size q.geometry.offset_size q.length_size =
      rw header_stands (length_header_from q)
      in
      let long = simp (length-take, length-drop) at stands in
      omega (arith, long)

  header_back : parsed_at s.file s.base s.place q.geometry.offset_size q.length_size
      ≡ accepted (header_figures (header_written q) ++ (s.base ∷ []))
  header_back =
      parsed_in_part s.file s.base s.place _ _ within
      ∙ ap (carrying s.base) (returns_header q s.records s.header s.image (plan_numbers p) ok small (part_of s) s.place header_stands)

  header_there : header_at (part_of s) s.place q.geometry.offset_size q.length_size ≡ header_written q
  header_there = returns_fields q s.records s.header s.image (plan_numbers p) ok small (part_of s) s.place header_stands

  -- The output with the records written at its front.
  abbrev filled : List ℕ
  filled = s.records ++ drop (q.record_count * q.geometry.record_size) s.output

  module _ (r : RoundTrip) (o : List ℕ) (read : header_answer_of r.header ≡ parsed_at s.file s.base s.place q.geometry.offset_size q.length_size)
      (run : Collects (read_back q s) r.collected o) where
    -- All but the counts, where collecting ends with the records put out.
    module _ (c : Counts) (ends : collected (part_of s) (header_written q) s.output ≡ fine c filled) (all : c.records ≡ q.record_count) where
      whole : read_back q s ≡ fine c filled
      unfolding read_back
      whole =
          rw (header_back, header_there)
          (collected_in_part (with_base s.base (header_written q)) s.output s.file within ∙ collected_based (part_of s) (header_written q) s.base s.output ∙ ends)

      tells : CellsSay r.collected.verdict r.collected.tally c
      unfolding run_cells
      tells = cells_say r.collected.verdict r.collected.tally c (rw whole at run.cells)

      with_counts : (1 ≤ q.record_count → NodesCounted q p r.collected.tally) → Complete q p s r o
      unfolding header_written
      with_counts counts =
          let t = tells in
          let address : root_of q ≡ address q (p.nodes - 1) = rw (same.nodes, root_address q) in
          let own : root_records_of q ≡ node_records q (p.nodes - 1) = rw (same.nodes, root_records_lem q) in
          let put : o ≡ filled = rw whole at run.output in
          record {
            header = rw (address, own, ← same.depth) at (read ∙ header_back);
            collected = t.verdict;
            front = rw put (take_at s.records (drop (q.record_count * q.geometry.record_size) s.output) (q.record_count * q.geometry.record_size) accept.records);
            rest = rw put (drop_at s.records (drop (q.record_count * q.geometry.record_size) s.output) (q.record_count * q.geometry.record_size) accept.records);
            put_out = omega (arith, t.records, all, few);
            counts = counts;
          }

    none_complete : q.record_count ≡ 0 → Complete q p s r o
    none_complete z =
        let empty : s.records ≡ [] = nil_from_length s.records (rw (z, zero-mul) at accept.records) in
        let same-output : s.output ≡ filled = rw (empty, z, zero-mul) in
        let ends : collected (part_of s) (header_written q) s.output ≡ fine no_counts filled =
        returns_none q s.records s.header s.image (plan_numbers p) ok small (part_of s) s.place s.output z ∙ ap (fine no_counts) same-output
        in
        with_counts no_counts ends (sym z) (λ some. absurd (omega arith))

    module _ (some : 1 ≤ q.record_count) where
      image_stands : part (part_of s) q.start (nodes_of q * q.geometry.node_size) ≡ image_of q s.records
      image_stands =
          rw same.nodes at holds.nodes
          ∙ rw (image, image_put q s.records s.header s.image (plan_numbers p) ok)
          (front_over (image_of q s.records) s.image (nodes_of q * q.geometry.node_size) (image_long q s.records accept some))

      back : Returned q s.records (part_of s) s.place s.output
      back =
          returns q s.records s.header s.image (plan_numbers p) ok small (part_of s) s.place s.output some
          (record { header = header_stands; nodes = image_stands }) long

      some_complete : Complete q p s r o
      some_complete =
          let b = back in
          let t = tells b.counts b.output b.records in
          with_counts b.counts b.output b.records
          (λ n. record {
            leaves = omega (arith, t.leaves, b.leaves_planned, b.all_nodes, b.at_most, few, same.leaves);
            one_more = omega (arith, t.leaves, t.internal_records, b.one_more, b.all_nodes, b.at_most, few);
            all_nodes = omega (arith, t.leaves, t.internals, b.all_nodes, b.at_most, few, same.nodes);
            at_most = rw same.nodes b.at_most;
          })

    complete : Complete q p s r o
    complete = ⊎_elim none_complete some_complete (eq-zero-or-pos q.record_count)

-- `collect_parsed`, by the header reader's answer.
module _ (file out : List ℕ) (p : Result BTreeV2Header Refusal) where
  pub collects_refused : (cause : Refusal) → p ≡ Err cause → Collects (on_parsed p file out) (nothing_read (Err cause)) out
  unfolding run_cells
  collects_refused cause e = let t = refused_is cause in record { cells = rw (e, t.2); output = rw (e, t.2) }

-- The header reader's own answer leads on as the definition's.
leads_on : (file out : List ℕ) (base o ow lw : ℕ) (p : Result BTreeV2Header Refusal) → Parses file base o ow lw p
    → on_parsed p file out ≡ on_header (parsed_at file base o ow lw) (with_base base (header_at (drop base file) o ow lw)) file out
leads_on file out base o ow lw (Ok h) is = rw (← is.answer, ← is.fields h refl)
leads_on file out base o ow lw (Err r) is = let t = refused_is r in rw (← is.answer, t.2)

-- The three calls.
module _ {q : Request} {s : Lent} {x : Result BTreeV2Plan Refusal} {h i : List ℕ} {p : Result BTreeV2Header Refusal} {c : Collected} {o : List ℕ} where
  pub answered : q.geometry.record_size < 65536 → Wrote q s.records s.header s.image (plan_answer_of x) h i
      → Parses s.file s.base s.place q.geometry.offset_size q.length_size p → Collects (on_parsed p s.file s.output) c o
      → Answered q s (record { written = x; header = p; collected = c }) h i o
  unfolding read_back
  answered small wrote parses collects =
      let run : Collects (read_back q s) c o = rw (leads_on s.file s.output s.base s.place _ _ p parses) at collects in
      record {
        written = wrote.answered;
        header_left = wrote.header_left;
        image_left = wrote.image_left;
        parsed = parses;
        collected = collects;
        complete = λ plan e holds long.
            complete q plan s (sym wrote.answered ∙ ap plan_answer_of e) small h i wrote.header_left wrote.image_left holds long _ o parses.answer run;
      }

-- The same in a file that has a block in front: what the write left stands in the part behind it.
pub returns_behind : (q : Request) (p : BTreeV2Plan) (s : Lent) (r : RoundTrip) (h i o : List ℕ) → Answered q s r h i o → r.written ≡ Ok p
    → (block file : List ℕ) → s.file ≡ block ++ file → s.base ≡ length block → Holds q p file s.place h i
    → q.record_count * q.geometry.record_size ≤ length s.output → Complete q p s r o
returns_behind q p s r h i o answers e block file is base holds =
    let behind : part_of s ≡ file = rw (is, base) (drop_at block file (length block) refl) in answers.complete p e (rw behind holds)
