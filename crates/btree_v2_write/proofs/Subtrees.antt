-- Writing a subtree: what its children ask, the loop over them, and the root.
use mathlib.Core.Path.{◌≡◌, refl, sym, ◌∙◌, ap, subst}
use mathlib.Core.Bool.{false}
use mathlib.Core.List.{List, [], ◌∷◌, ◌++◌}
use Prim.Native.Nat.{ℕ, zero, suc, ◌+◌, ◌-◌, ◌*◌, ◌^◌, ◌≤◌, ◌<◌}
use native.Mathlib.Nat.{le_trans, mul-le-mul_right, div-le_self, not-suc-le-zero}
use native.Mathlib.Omega.{arith}
use mir.Val.{Fits}
use mir.Syntax.{w64}
use borrow.Author.Tests.{le-ltb, lt-ltb}
use lib.Dec.{ltb}
use lib.ListN.{length, take, drop, length-append}
use lib.Seq.{take_all, drop-drop}
use Rattle.std.specs.List.{All, sum_by}
use Rattle.std.proofs.lemmas.List.Elements.{All-nil, All-cons}
use Rattle.std.proofs.lemmas.List.Sums.{sum_by-cons}
use Rattle.numbers.specs.Numbers.{pick}
use Rattle.numbers.specs.Places.{stored, joined}
use Rattle.numbers.proofs.Lists.{stored_nil, stored_append, length_stored, drop_stored_end}
use Rattle.node_info.specs.declared.NodeInfo.{NodeInfo}
use Rattle.node_info.specs.declared.ChildPointer.{ChildPointer}
use Rattle.node_info.specs.Capacity.{total_width}
use Rattle.node_info.specs.Table.{info_at, level_in}
use Rattle.node_info.proofs.Columns.{subtree_entry, total_entry, pointer_entry}
use Rattle.plan.specs.Tree.{Tree, sum_kids, between, nodes, below, count, size, AllKids, Everywhere}
use Rattle.plan.specs.declared.Distribution.{Distribution}
use Rattle.plan.specs.Planned.{distribution, taken, children, kids_of, plan_tree, thin}
use Rattle.plan.proofs.Distributing.{share, extra, taken_le, taken_pos, extra_lt, children_some}
use Rattle.plan.proofs.Lists.{sum_kids_of}
use Rattle.plan.proofs.Plans.{plan_size, plan_count}
use Rattle.plan.proofs.Thin.{thin_children, thin_pos}
use Rattle.format.specs.Bytes.{image}
use Rattle.format.specs.Fields.{front_fields, end_fields, with_end, leaf_fields}
use Rattle.format.proofs.Fields.{leaf_joined, records_many}
use Rattle.format.specs.Fit.{Fit}
use Rattle.format.proofs.Lengths.{length_image, length_children}
use Rattle.format.specs.declared.Request.{Request}
use Rattle.btree_v2_write.specs.declared.node.Child.{Child}
use Rattle.btree_v2_write.specs.declared.node.InternalNode.{InternalNode}
use Rattle.btree_v2_write.specs.Shares.{two_sizes, with_one, nodes_of_all, child_shares, children_of, internal_node_fields, InternalNodeFits}
use Rattle.btree_v2_write.specs.Subtrees.{capacities, subtree, subtree_nodes, subtree_image, RightBelow, Ready, ChildOf, SubtreeWritten}
use Rattle.btree_v2_write.proofs.Internal.{from, from_first, from_step, from_end, number_fits, internal_few}
use Rattle.btree_v2_write.proofs.Planned.{two_children, each_child, one_each, images, images_kids, sized, Numbers, nodes_node, nodes_are, records_within, image_is}

-- A table of depth D is right of its levels, and so of the levels below level D + 1.
pub right_below : {q : Request} {t : NodeInfo} {D d : ℕ} → t ≡ info_at q.geometry D → D ≤ 32 → d ≤ D + 1 → RightBelow q t d
right_below {q} {t} {D} {d} table top deep =
    record {
      counts = ap (λ (p : ChildPointer). p.count_size) (pointer_entry q.geometry D t table 0 (omega arith) top 0);
      caps = λ u h. subtree_entry q.geometry D t table u (omega arith) top;
      widths = λ u h. total_entry q.geometry D t table u (omega arith) top;
    }

-- What is right of more levels is right of fewer.
pub right_further : {q : Request} {t : NodeInfo} {d e : ℕ} → RightBelow q t d → e ≤ d → RightBelow q t e
right_further right within =
    record { counts = right.counts; caps = λ u h. right.caps u (omega arith); widths = λ u h. right.widths u (omega arith) }

-- Bytes right after others.
stored_turn : (o : List ℕ) (p q : ℕ) (x rest : List ℕ) → p ≤ length o → q ≡ p + length x
    → stored (stored o p x) q rest ≡ stored o p (x ++ rest)
stored_turn o p q x rest h e = rw e (stored_append o p x h rest)

-- What comes after bytes that were stored, and after a place from which two buffers are the same.
drop_after : (o d : List ℕ) (p : ℕ) (b : List ℕ) {k : ℕ} → d ≡ stored o p b → k ≡ p + length b → p ≤ length o → drop k d ≡ drop k o
drop_after o d p b e is h = rw (e, is) (drop_stored_end o p b h)

drop_further : (a b : List ℕ) (m k : ℕ) → m ≤ k → drop m a ≡ drop m b → drop k a ≡ drop k b
drop_further a b m k h e =
    let is : k ≡ m + (k - m) = omega arith in rw (is, ← drop-drop, ← drop-drop) (ap (drop (k - m)) e)

-- What holds of every child of the tree holds of every number that a child is made of.
all_numbers : {A : Type 0} (f : ℕ → A) (P : A → Type 0) (ms : List ℕ) → 0 < length ms → AllKids P (kids_of f ms) → All (λ m. P (f m)) ms
unfolding kids_of
all_numbers f P [] h a = absurd (not-suc-le-zero h)
all_numbers f P (m ∷ []) h a = All-cons (λ m. P (f m)) m [] a (All-nil (λ m. P (f m)))
all_numbers f P (m ∷ k ∷ ms) h a = All-cons (λ m. P (f m)) m (k ∷ ms) a.0 (all_numbers f P (k ∷ ms) (omega arith) a.1)

-- A subtree that is ready has as many records as it says.
planned_records : (c : ℕ → ℕ) (d n : ℕ) → (1 ≤ d → thin c d n ≡ false) → size d (plan_tree c d n) ≡ n
unfolding size plan_tree
planned_records c zero n h = refl
planned_records c (suc d) n h = plan_size c (suc d) n (h (omega arith))

-- A subtree's image is as long as its nodes.
length_subtree : {q : Request} {I d n j r : ℕ} (recs : List ℕ) → Ready q (length recs) I d n j r
    → length (subtree_image q recs d n j r) ≡ subtree_nodes q d n * q.geometry.node_size
unfolding subtree_image
length_subtree {q} {d = d} {n} {j} {r} recs ready =
    let record_range = rw (← planned_records (capacities q) d n ready.thick) at ready.in_list in
    length_image q recs d (subtree q d n) j r ready.fits record_range

-- The children of a subtree of level d + 1 that is ready.
module _ {q : Request} {R I d n j r : ℕ} (ready : Ready q R I (suc d) n j r) where
  abbrev kids : List ℕ
  kids = children (capacities q d) n

  thick : thin (capacities q) (suc d) n ≡ false
  thick = ready.thick (omega arith)

  some : 1 ≤ n
  some = thin_pos (capacities q) (suc d) n thick

  share_less : share (capacities q d) n + 1 ≤ n
  share_less =
      omega (arith, div-le_self (n - taken (capacities q d) n) (taken (capacities q d) n + 1), taken_pos (capacities q d) n, taken_le (capacities q d) n some)

  kept_few : taken (capacities q d) n < 2 ^ 24
  kept_few = omega (arith, taken_le (capacities q d) n some, ready.few)

  kids_fit : All (λ m. Everywhere (Fit q.geometry) d (subtree q d m)) kids
  unfolding plan_tree
  kids_fit = all_numbers (subtree q d) (Everywhere (Fit q.geometry) d) kids (children_some (capacities q d) n) ready.fits.1

  node_pos : 0 < q.geometry.node_size
  node_pos = omega (arith, ready.fits.0.node)

  -- All nodes but the root.
  nodes_below : subtree_nodes q (suc d) n ≡ sum_by (subtree_nodes q d) kids + 1
  nodes_below = nodes_node q [] d n thick

  child_ready : (i m next next_record : ℕ) → m ≡ pick (ltb i (extra (capacities q d) n)) (share (capacities q d) n + 1) (share (capacities q d) n)
      → next + subtree_nodes q d m ≤ j + sum_by (subtree_nodes q d) kids → next_record + m ≤ r + n → Ready q R I d m next next_record
  child_ready i m next next_record is at rest =
      let bytes = mul-le-mul_right {m = next + subtree_nodes q d m} {n = j + subtree_nodes q (suc d) n} q.geometry.node_size (omega (arith, nodes_below)) in
      record {
        low = omega (arith, ready.low);
        few = omega (arith, ready.few);
        thick = λ _. rw is (each_child (capacities q d) n (λ y. thin (capacities q) d y ≡ false) (thin_children (capacities q) d n thick) i);
        fits = rw is (each_child (capacities q d) n (λ y. Everywhere (Fit q.geometry) d (subtree q d y)) kids_fit i);
        in_list = le_trans (mul-le-mul_right q.geometry.record_size rest) ready.in_list;
        room = le_trans bytes ready.room;
        short = omega (arith, bytes, ready.short);
      }

  -- The children's images are as long as their nodes.
  length_images : (recs : List ℕ) → R ≡ length recs → length (images q recs d kids j r) ≡ sum_by (subtree_nodes q d) kids * q.geometry.node_size
  unfolding plan_tree size
  length_images recs same =
      let trees = kids_of (subtree q d) kids in
      let many = children_some (capacities q d) n in
      let room : (r + (sum_kids (size d) trees + between trees)) * q.geometry.record_size ≤ length recs =
      rw (plan_size (capacities q) (suc d) n thick) (rw same at ready.in_list) in
      let long = length_children q recs d (length_image q recs d) trees j r ready.fits.1 room in
      rw (← images_kids q recs d kids many (sized q recs d n thick) j r, long, sum_kids_of (subtree q d) (nodes d) kids many)

-- A leaf.
module _ (q : Request) (recs o : List ℕ) (depth n j r : ℕ) (ready : Ready q (length recs) (length o) depth n j r) (none : depth ≡ 0) where
  leaf : Ready q (length recs) (length o) 0 n j r
  leaf = subst (λ z. Ready q (length recs) (length o) z n j r) none ready

  pub leaf_room : (j + 1) * q.geometry.node_size ≤ length o
  unfolding nodes below
  leaf_room = leaf.room

  pub leaf_fits : 10 + n * q.geometry.record_size ≤ q.geometry.node_size
  unfolding count plan_tree
  leaf_fits = leaf.fits.node

-- The budget of a whole node covers a leaf.
leaf_few : (q : Request) (recs : List ℕ) (n r : ℕ) → n < 2 ^ 24 → length (leaf_fields q recs n r) ≤ 2 ^ 32
unfolding leaf_fields with_end end_fields front_fields
leaf_few q recs n r h = simp (length-append, records_many) (omega arith)

-- The budget of a whole node is enough for its fields.
pub whole_node : 2 ^ 32 ≤ 18446744073709551615
whole_node = omega arith

pub leaf_done : {q : Request} {recs o o' : List ℕ} {depth n j r whole : ℕ}
    → Ready q (length recs) (length o) depth n j r → depth ≡ 0 → 2 ^ 32 ≤ whole
    → o' ≡ stored o (j * q.geometry.node_size) (joined (take whole (leaf_fields q recs n r)))
    → SubtreeWritten q recs o o' depth n j r (record { records = n; total = n; nodes = 1 })
unfolding subtree_image nodes below count size image plan_tree
leaf_done {q} {recs = recs} {o} {o'} {n = n} {j} {r} {whole} ready none many e =
    let all = take_all whole (leaf_fields q recs n r) (le_trans (leaf_few q recs n r (omega (arith, ready.few))) many) in
    rw none (record { image = rw (all, leaf_joined) at e; child = record { records = refl; total = refl; nodes = refl } })

-- A node of depth at least 1 that keeps k records; its children have b records, the first x of them one more.
pub record Split (q : Request) (R I depth n j r k b x : ℕ) : Type 0 where
  pub given : Ready q R I depth n j r
  pub pos : depth ≡ 0 → ⊥
  pub kept : k ≡ taken (capacities q (depth - 1)) n
  pub base : b ≡ share (capacities q (depth - 1)) n
  pub extra : x ≡ extra (capacities q (depth - 1)) n

module _ {q : Request} {R I depth n j r k b x : ℕ} (distributed : Split q R I depth n j r k b x) where
  abbrev under : ℕ
  under = depth - 1

  abbrev all : List ℕ
  all = two_sizes (k + 1) x (b + 1) b

  deeper : depth ≡ suc under
  deeper = omega (arith, distributed.pos)

  ready : Ready q R I (suc under) n j r
  ready = subst (λ z. Ready q R I z n j r) deeper distributed.given

  all_is : all ≡ children (capacities q under) n
  all_is = rw (distributed.kept, distributed.extra, distributed.base) (two_children (capacities q under) n)

  range_all : with_one all ≡ n + 1
  range_all = rw all_is (one_each (capacities q under) n (some ready))

  nodes_all : subtree_nodes q (suc under) n ≡ sum_by (subtree_nodes q under) all + 1
  nodes_all = rw all_is (nodes_below ready)

  pub base_few : b < 2 ^ 32
  base_few = omega (arith, distributed.base, share_less ready, ready.few)

  kept_small : k < 2 ^ 24
  kept_small = omega (arith, distributed.kept, kept_few ready)

  extra_few : x ≤ k
  extra_few = omega (arith, distributed.extra, distributed.kept, extra_lt (capacities q under) n)

  some_kept : 1 ≤ k
  some_kept = omega (arith, distributed.kept, taken_pos (capacities q under) n)

  -- Child i is ready where this node and this record are reached.
  kid : {I' : ℕ} (i m next next_record : ℕ) → I' ≡ I → m ≡ pick (ltb i x) (b + 1) b → next + subtree_nodes q under m ≤ j + sum_by (subtree_nodes q under) all
      → next_record + m ≤ r + n → Ready q R I' under m next next_record
  kid i m next next_record same is at rest =
      rw same (child_ready ready i m next next_record (rw (distributed.extra, distributed.base) at is) (rw all_is at at) rest)

  -- The first child.
  module _ {m : ℕ} (e : m ≡ pick (ltb 0 x) (b + 1) b) where
    first_left : all ≡ m ∷ from (k + 1) x (b + 1) b 1
    first_left = rw e (from_first k x (b + 1) b)

    first_sum : sum_by (subtree_nodes q under) all ≡ subtree_nodes q under m + sum_by (subtree_nodes q under) (from (k + 1) x (b + 1) b 1)
    first_sum = rw first_left (sum_by-cons (subtree_nodes q under) m (from (k + 1) x (b + 1) b 1))

    pub first_ready : Ready q R I under m j r
    unfolding with_one
    first_ready =
        kid 0 m j r refl e (omega (arith, first_sum)) (let all' = rw first_left at range_all in omega (arith, all'))

-- The loop over the children from child 1 on. It began with the image o₁, when child 0 had returned `large`; before child i the node `next` and
-- the record `row` are reached, the image from that node on is as it was lent, and the child before it, from child 2 on, has returned `small`.
pub record KidsLeft (q : Request) (recs o₁ : List ℕ) (depth n j r k b x : ℕ) (large : Child) (o : List ℕ) (small : Child) (next next_record i : ℕ) : Type 0 where
  pub distributed : Split q (length recs) (length o₁) depth n j r k b x
  pub of_first : ChildOf (depth - 1) (subtree q (depth - 1) (pick (ltb 0 x) (b + 1) b)) large
  pub of_last : 1 < i → ChildOf (depth - 1) (subtree q (depth - 1) (pick (ltb (i - 1) x) (b + 1) b)) small
  pub within : (1 ≤ i) × (i ≤ k + 1)
  pub reached : next + sum_by (subtree_nodes q (depth - 1)) (from (k + 1) x (b + 1) b i) ≡ j + sum_by (subtree_nodes q (depth - 1)) (two_sizes (k + 1) x (b + 1) b)
  pub in_list : next_record + with_one (from (k + 1) x (b + 1) b i) ≡ r + n + 1
  pub long : length o ≡ length o₁
  pub lent : drop (next * q.geometry.node_size) o ≡ drop (next * q.geometry.node_size) o₁
  pub left : stored o (next * q.geometry.node_size) (images q recs (depth - 1) (from (k + 1) x (b + 1) b i) next next_record)
      ≡ stored o₁ ((j + large.nodes) * q.geometry.node_size) (images q recs (depth - 1) (from (k + 1) x (b + 1) b 1) (j + large.nodes) (r + large.total + 1))

-- A child in the numbers that its writing returned.
child_is : {d : ℕ} {t : Tree d} {x : Child} → ChildOf d t x → x ≡ record { records = count d t; total = size d t; nodes = nodes d t }
child_is y = λ i. record { records = y.records i; total = y.total i; nodes = y.nodes i }

some_nodes : {d : ℕ} {t : Tree d} {x : Child} → ChildOf d t x → 0 < x.nodes
unfolding nodes
some_nodes y = omega (arith, y.nodes)

abbrev internal_node_at : ℕ → ℕ → ℕ → Child → Child → ℕ → ℕ → ℕ → ℕ → InternalNode
internal_node_at k b x large small w t j r =
    record {
      distributed = record { kept = k; base = b; extra = x };
      large = large;
      small = small;
      count_size = w;
      total_size = t;
      first = record { nodes = j; records = r };
    }

-- Before the loop: what is distributed, by a table that is right of the levels below the node, and the first child.
module _ {q : Request} {t : NodeInfo} {R I depth n j r : ℕ} {x : Distribution}
    (right : RightBelow q t depth) (given : Ready q R I depth n j r) (pos : depth ≡ 0 → ⊥) (dealt : x ≡ distribution (level_in t (depth - 1)).cum_max_nrec n) where
  by_capacity : x ≡ distribution (capacities q (depth - 1)) n
  by_capacity = dealt ∙ ap (λ c. distribution c n) (right.caps (depth - 1) (omega (arith, pos)))

  pub now_distributed : Split q R I depth n j r x.kept x.base x.extra
  now_distributed =
      record {
        given = given;
        pos = pos;
        kept = ap (λ (d : Distribution). d.kept) by_capacity;
        base = ap (λ (d : Distribution). d.base) by_capacity;
        extra = ap (λ (d : Distribution). d.extra) by_capacity;
      }

  pub share_few : x.base < 2 ^ 32
  share_few = base_few now_distributed

  pub first_asked : (m : ℕ) → m ≡ pick (ltb 0 x.extra) (x.base + 1) x.base → Ready q R I (depth - 1) m j r
  first_asked m e = first_ready now_distributed e

-- A number among those of the subtree's nodes, or the one after them; a record's place among its records, or the one after them.
module _ {q : Request} {R I depth n j r k b x : ℕ} (distributed : Split q R I depth n j r k b x) where
  pub node_fits : (y : ℕ) → y ≤ j + subtree_nodes q (suc (depth - 1)) n → y < 2 ^ 64
  node_fits y within =
      let node = ready distributed in
      omega (arith, number_fits q.start j (subtree_nodes q (suc (depth - 1)) n) q.geometry.node_size (node_pos node) node.short y within)

  pub record_fits : (y : ℕ) → y ≤ r + n + 1 → y < 2 ^ 64
  record_fits y within = omega (arith, distributed.given.few)

-- The first child is written, and the loop begins.
module _ {q : Request} {recs : List ℕ} {depth n j r k b x m : ℕ} {o o₁ : List ℕ} {large : Child}
    (distributed : Split q (length recs) (length o) depth n j r k b x) (e : m ≡ pick (ltb 0 x) (b + 1) b)
    (wrote : SubtreeWritten q recs o o₁ (depth - 1) m j r large) where
  large_total : large.total ≡ m
  large_total = wrote.child.total ∙ planned_records (capacities q) (depth - 1) m (first_ready distributed e).thick

  records_first : m + 1 + with_one (from (k + 1) x (b + 1) b 1) ≡ n + 1
  unfolding with_one
  records_first = rw (first_left distributed e) at (range_all distributed)

  -- Neither the first child nor one of the smaller size has more records than there are.
  pub first_within : (large.total ≤ n) × (b ≤ n)
  first_within = (omega (arith, large_total, records_first), omega (arith, distributed.base, share_less (ready distributed)))

  pub first_next_fits : j + large.nodes < 2 ^ 64
  first_next_fits = node_fits distributed (j + large.nodes) (omega (arith, wrote.child.nodes, nodes_all distributed, first_sum distributed e))

  pub first_after_fits : r + large.total + 1 < 2 ^ 64
  first_after_fits = record_fits distributed _ (omega (arith, first_within))

  -- The image from the next node on is as it was lent.
  pub first_lent : drop ((j + large.nodes) * q.geometry.node_size) o₁ ≡ drop ((j + large.nodes) * q.geometry.node_size) o
  first_lent =
      let node = first_ready distributed e in
      let own = subtree_image q recs (depth - 1) m j r in
      let long = length_subtree recs node in
      let ends : (j + subtree_nodes q (depth - 1) m) * q.geometry.node_size ≡ j * q.geometry.node_size + length own = rw long (omega arith) in
      rw wrote.child.nodes (drop_after o o₁ (j * q.geometry.node_size) own wrote.image ends (omega (arith, node.room)))

  pub loop_start : (small : Child) → length o₁ ≡ length o
      → KidsLeft q recs o₁ depth n j r k b x large o₁ small (j + large.nodes) (r + large.total + 1) 1
  loop_start small same =
      record {
        distributed = rw same distributed;
        of_first = subst (λ z. ChildOf (depth - 1) (subtree q (depth - 1) z) large) e wrote.child;
        of_last = λ h. absurd (omega arith);
        within = (omega arith, omega arith);
        reached = omega (arith, wrote.child.nodes, first_sum distributed e);
        in_list = omega (arith, records_first, large_total);
        long = refl;
        lent = refl;
        left = refl;
      }

module _ {q : Request} {recs : List ℕ} {depth n j r k b x : ℕ} {o₁ o : List ℕ} {large small : Child} {next next_record i : ℕ}
    (inv : KidsLeft q recs o₁ depth n j r k b x large o small next next_record i) where
  abbrev d : ℕ
  d = depth - 1

  abbrev rest : ℕ → List ℕ
  rest = from (k + 1) x (b + 1) b

  -- A turn: child i, and the numbers and the image after it.
  module _ (h : i ≤ k) {m : ℕ} (e : m ≡ pick (ltb i x) (b + 1) b) where
    kid_left : rest i ≡ m ∷ rest (i + 1)
    kid_left = rw e (from_step (k + 1) x (b + 1) b i (omega arith))

    kid_nodes : next + subtree_nodes q d m + sum_by (subtree_nodes q d) (rest (i + 1)) ≡ j + sum_by (subtree_nodes q d) (two_sizes (k + 1) x (b + 1) b)
    kid_nodes = let reached = rw kid_left at inv.reached in omega (arith, reached, sum_by-cons (subtree_nodes q d) m (rest (i + 1)))

    kid_records : next_record + m + 1 + with_one (rest (i + 1)) ≡ r + n + 1
    unfolding with_one
    kid_records = let q = rw kid_left at inv.in_list in omega (arith, q)

    pub kid_ready : Ready q (length recs) (length o) d m next next_record
    kid_ready = kid inv.distributed i m next next_record inv.long e (omega (arith, kid_nodes)) (omega (arith, kid_records))

    module _ {o' : List ℕ} {z : Child} (wrote : SubtreeWritten q recs o o' d m next next_record z) where
      z_total : z.total ≡ m
      z_total = wrote.child.total ∙ planned_records (capacities q) d m kid_ready.thick

      pub kid_record : next_record + z.total + 1 ≤ r + n + 1
      kid_record = omega (arith, z_total, kid_records)

      pub kid_next : next + z.nodes ≤ j + subtree_nodes q (suc d) n
      kid_next = omega (arith, wrote.child.nodes, kid_nodes, nodes_all inv.distributed)

      pub kid_next_fits : next + z.nodes < 2 ^ 64
      kid_next_fits = node_fits inv.distributed _ kid_next

      pub kid_after_fits : next_record + z.total + 1 < 2 ^ 64
      kid_after_fits = record_fits inv.distributed _ kid_record

      pub loop_turn : KidsLeft q recs o₁ depth n j r k b x large o' z (next + z.nodes) (next_record + z.total + 1) (i + 1)
      unfolding images
      loop_turn =
          let long = length_subtree recs kid_ready in
          let before : i + 1 - 1 ≡ i = omega arith in
          let own = subtree_image q recs d m next next_record in
          let after = images q recs d (rest (i + 1)) (next + subtree_nodes q d m) (next_record + m + 1) in
          let ends : (next + subtree_nodes q d m) * q.geometry.node_size ≡ next * q.geometry.node_size + length own = rw long (omega arith) in
          record {
            distributed = inv.distributed;
            of_first = inv.of_first;
            of_last = λ _. rw (before, ← e) wrote.child;
            within = (omega arith, omega arith);
            reached = rw wrote.child.nodes kid_nodes;
            in_list = rw z_total kid_records;
            long = ap length wrote.image ∙ length_stored o _ own (rw (← ends) kid_ready.room) ∙ inv.long;
            lent =
                rw wrote.child.nodes
                (drop_after o o' (next * q.geometry.node_size) own wrote.image ends (omega (arith, ends, kid_ready.room))
                ∙ drop_further o o₁ (next * q.geometry.node_size) ((next + subtree_nodes q d m) * q.geometry.node_size) (omega (arith, ends)) inv.lent);
            left =
                rw (wrote.child.nodes, z_total, wrote.image, stored_turn o _ _ own after (omega (arith, ends, kid_ready.room)) ends)
                (rw kid_left at inv.left);
          }

  -- The root, once the last child is written.
  module _ (past : k < i) where
    last_is : i ≡ k + 1
    last_is = omega (arith, inv.within)

    last_returned : ChildOf d (subtree q d (pick (ltb (i - 1) x) (b + 1) b)) small
    last_returned = inv.of_last (omega (arith, last_is, some_kept inv.distributed))

    none_left : rest i ≡ []
    none_left = from_end (k + 1) x (b + 1) b i (omega arith)

    nodes_done : next ≡ j + sum_by (subtree_nodes q d) (two_sizes (k + 1) x (b + 1) b)
    nodes_done = let q = rw none_left at inv.reached in omega (arith, q)

    pub next_is : next + 1 ≡ j + subtree_nodes q (suc d) n
    next_is = omega (arith, nodes_all inv.distributed, nodes_done)

    pub next_fits : Fits w64 (next + 1)
    next_fits = omega (arith, node_fits inv.distributed (next + 1) (omega (arith, next_is)))

    pub next_least : j ≤ next
    next_least = omega (arith, nodes_done)

    pub root_room : (next + 1) * q.geometry.node_size ≤ length o
    root_room = rw (next_is, inv.long) (ready inv.distributed).room

    whole : List ℕ
    whole = images q recs d (two_sizes (k + 1) x (b + 1) b) j r

    -- The children's images, one after another, in the image that the node's writing began with.
    module _ {o₀ : List ℕ} {m : ℕ} (e : m ≡ pick (ltb 0 x) (b + 1) b) (same : length o₁ ≡ length o₀) (first : SubtreeWritten q recs o₀ o₁ d m j r large) where
      place : next * q.geometry.node_size ≡ j * q.geometry.node_size + length whole
      unfolding whole
      place =
          let long = length_images (ready inv.distributed) recs refl in
          rw (all_is inv.distributed, long, nodes_done, all_is inv.distributed) (omega arith)

      children_done : o ≡ stored o₀ (j * q.geometry.node_size) whole
      unfolding images whole
      children_done =
          let node = first_ready inv.distributed e in
          let long = length_subtree recs node in
          let total-is = first.child.total ∙ planned_records (capacities q) d m node.thick in
          let own = subtree_image q recs d m j r in
          let after = images q recs d (rest 1) (j + subtree_nodes q d m) (r + m + 1) in
          let left = rw none_left at inv.left in
          let ends : (j + subtree_nodes q d m) * q.geometry.node_size ≡ j * q.geometry.node_size + length own = rw long (omega arith) in
          sym (stored_nil o (next * q.geometry.node_size))
          ∙ left
          ∙ rw (first.child.nodes, total-is, first.image, stored_turn o₀ _ _ own after (omega (arith, node.room, same)) ends, first_left inv.distributed e)

      -- The root is filled over what was lent.
      pub root_lent : drop (next * q.geometry.node_size) o ≡ drop (next * q.geometry.node_size) o₀
      root_lent =
          drop_after o₀ o (j * q.geometry.node_size) whole children_done place (omega (arith, (ready inv.distributed).room, same))

    -- The root, with pointers as the table says.
    module _ {t : NodeInfo} (right : RightBelow q t depth) where
      abbrev internal : InternalNode
      internal = internal_node_at k b x large small t.max_nrec_size (level_in t d).cum_max_nrec_size j r

      width : (level_in t d).cum_max_nrec_size ≡ total_width q.geometry d
      width = right.widths d (omega (arith, inv.distributed.pos))

      numbers : Numbers q recs d n (thick (ready inv.distributed)) internal
      numbers =
          let before : i - 1 ≡ k = omega (arith, last_is) in
          let last = rw (before, le-ltb k x (extra_few inv.distributed), inv.distributed.base) at last_returned in
          record {
            kept = inv.distributed.kept;
            base = inv.distributed.base;
            extra = inv.distributed.extra;
            large = λ h. child_is (rw (lt-ltb 0 x h, inv.distributed.base) at inv.of_first);
            small = child_is last;
            pointer = rw (right.counts, width) refl;
          }

      pub root_fits : 0 < q.geometry.record_size → InternalNodeFits q (length recs) internal
      unfolding count
      root_fits size =
          let node = ready inv.distributed in
          let bytes = rw (plan_count (capacities q) d n) at node.fits.0.node in
          let within : r + with_one (child_shares internal) ≤ r + n = omega (arith, records_within q recs d n (thick node) internal numbers) in
          let ends : j + nodes_of_all (children_of internal) ≤ j + subtree_nodes q (suc d) n =
          omega (arith, nodes_are q recs d n (thick node) internal numbers, nodes_below node) in
          record {
            size = size;
            few = base_few inv.distributed;
            bytes = rw (right.counts, width, inv.distributed.kept) (omega (arith, bytes));
            in_list = le_trans (mul-le-mul_right q.geometry.record_size within) node.in_list;
            some = (some_nodes inv.of_first, some_nodes last_returned);
            short = omega (arith, mul-le-mul_right q.geometry.node_size ends, node.short);
          }

      image_all : subtree_image q recs (suc d) n j r ≡ whole ++ joined (internal_node_fields q recs internal)
      unfolding whole
      image_all = rw (all_is inv.distributed) (image_is q recs d n (thick (ready inv.distributed)) internal numbers)

      pub root_done : {o₀ : List ℕ} {m : ℕ} → m ≡ pick (ltb 0 x) (b + 1) b → length o₁ ≡ length o₀ → SubtreeWritten q recs o₀ o₁ d m j r large
          → {z : List ℕ} {budget : ℕ} → 2 ^ 32 ≤ budget → z ≡ stored o (next * q.geometry.node_size) (joined (take budget (internal_node_fields q recs internal)))
          → SubtreeWritten q recs o₀ z depth n j r (record { records = k; total = n; nodes = next + 1 - j })
      root_done {o₀} {m} e same first {z} {budget} many written =
          let node = ready inv.distributed in
          let own = joined (internal_node_fields q recs internal) in
          let all = take_all budget (internal_node_fields q recs internal) (le_trans (internal_few q recs internal (kept_small inv.distributed)) many) in
          let room : j * q.geometry.node_size ≤ length o₀ = omega (arith, node.room, same) in
          subst (λ (u : ℕ). SubtreeWritten q recs o₀ z u n j r (record { records = k; total = n; nodes = next + 1 - j })) (sym (deeper inv.distributed))
          (record {
            image = rw (written, all, children_done e same first, stored_turn o₀ _ _ whole own room (place e same first), image_all);
            child =
                record {
                  records = inv.distributed.kept ∙ sym (plan_count (capacities q) d n);
                  total = sym (plan_size (capacities q) (suc d) n (thick node));
                  nodes = omega (arith, next_is);
                };
          })
