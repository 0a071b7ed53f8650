-- The planned node in the terms of the functions that fill it: its children are two sizes of subtrees.
use mathlib.Core.Path.{◌≡◌, refl, sym, ◌∙◌, ap}
use mathlib.Core.Logic.{⊎_elim}
use mathlib.Core.Bool.{false}
use mathlib.Core.List.{List, [], ◌∷◌, ◌++◌, append-nil}
use Prim.Native.Nat.{ℕ, zero, suc, ◌+◌, ◌-◌, ◌≤◌, ◌<◌}
use native.Mathlib.Nat.{sub-zero, not-suc-le-zero, suc-sub-suc}
use native.Mathlib.Numerals.{add-one}
use native.Mathlib.Omega.{arith}
use lib.Dec.{ltb}
use lib.ListN.{length, replicate}
use borrow.Author.Tests.{lt-ltb, le-ltb}
use Rattle.std.specs.List.{All, sum_by}
use Rattle.std.proofs.lemmas.Bool.{cases_lt}
use Rattle.std.proofs.lemmas.List.Sums.{sum_by-cons}
use Rattle.numbers.specs.Numbers.{pick}
use Rattle.node_info.specs.declared.ChildPointer.{ChildPointer}
use Rattle.node_info.specs.Capacity.{count_width, total_width}
use Rattle.plan.specs.Tree.{count, size, below, nodes}
use Rattle.plan.specs.Planned.{taken, children, kids_of, plan_tree, thin}
use Rattle.plan.proofs.Distributing.{share, extra, extra_lt, children_is, length_children, children_some, sum_of_children, sum_children, taken_le, all_children_less, all_children_more}
use Rattle.plan.proofs.Plans.{plan_size, plan_nodes}
use Rattle.plan.proofs.Thin.{thin_children, thin_pos}
use Rattle.numbers.specs.Places.{joined}
use Rattle.format.specs.Bytes.{padded, internal_bytes, kids_image, image}
use Rattle.format.specs.Fields.{pointer_fields, all_pointer_fields, own_fields, internal_fields, FinalThenLent}
use Rattle.format.proofs.Fields.{internal_joined, internal_final_then_lent}
use Rattle.format.specs.declared.Request.{Request}
use Rattle.btree_v2_write.specs.declared.node.Child.{Child}
use Rattle.btree_v2_write.specs.declared.node.InternalNode.{InternalNode}
use Rattle.btree_v2_write.specs.Shares.{two_sizes, with_one, records_after, pointer_to, pointers_to, nodes_of_all, pointer_of, content_fields, internal_node_fields, child_shares, children_of}
use Rattle.btree_v2_write.specs.Subtrees.{capacities, subtree, subtree_nodes, subtree_image}

-- The two sizes as runs.
two_small : {A : Type 0} (k : ℕ) (x y : A) → two_sizes k 0 x y ≡ replicate k y
unfolding two_sizes
two_small zero x y = refl
two_small (suc k) x y = ap (λ l. y ∷ l) (two_small k x y)

two_runs : {A : Type 0} (k e : ℕ) (x y : A) → e ≤ k → two_sizes k e x y ≡ replicate e x ++ replicate (k - e) y
unfolding two_sizes
two_runs k zero x y h = rw sub-zero (two_small k x y)
two_runs zero (suc e) x y h = absurd (not-suc-le-zero h)
two_runs (suc k) (suc e) x y h = rw suc-sub-suc (ap (λ l. x ∷ l) (two_runs k e x y (omega arith)))

-- Where none is large, the large one does not matter.
two_any : {A : Type 0} (k e : ℕ) (x z y : A) → (0 < e → x ≡ z) → two_sizes k e x y ≡ two_sizes k e z y
two_any k zero x z y h = two_small k x y ∙ sym (two_small k z y)
two_any k (suc e) x z y h = rw (h (omega arith))

module _ (c n : ℕ) where
  pub two_children : two_sizes (taken c n + 1) (extra c n) (share c n + 1) (share c n) ≡ children c n
  two_children = rw (two_runs (taken c n + 1) (extra c n) (share c n + 1) (share c n) (omega (arith, extra_lt c n)), children_is)

  -- What holds of every child holds of child i.
  pub each_child : (P : ℕ → Type 0) → All P (children c n) → (i : ℕ) → P (pick (ltb i (extra c n)) (share c n + 1) (share c n))
  each_child P a i =
      ⊎_elim
      (λ (h : i < extra c n). rw (lt-ltb i (extra c n) h) (all_children_more P c n (omega arith) a))
      (λ (h : extra c n ≤ i). rw (le-ltb i (extra c n) h) (all_children_less P c n a))
      (cases_lt i (extra c n))

-- Sums over the children.
with_one_lem : (ms : List ℕ) → with_one ms ≡ sum_by (λ m. m + 1) ms
unfolding with_one
with_one_lem [] = refl
with_one_lem (m ∷ ms) = omega (arith, with_one_lem ms, sum_by-cons (λ m. m + 1) m ms)

sum_one : (ms : List ℕ) → sum_by (λ m. m + 1) ms ≡ sum_by (λ m. m) ms + length ms
sum_one [] = refl
sum_one (m ∷ ms) = omega (arith, sum_one ms, sum_by-cons (λ m. m + 1) m ms, sum_by-cons (λ m. m) m ms)

pub one_each : (c n : ℕ) → 1 ≤ n → with_one (children c n) ≡ n + 1
one_each c n h =
    rw (with_one_lem, sum_one) (omega (arith, sum_children c n, length_children c n, taken_le c n h))

-- All children but the last.
front : List ℕ → List ℕ
front [] = []
front (m ∷ []) = []
front (m ∷ k ∷ ms) = m ∷ front (k ∷ ms)

front_two : (k e x y : ℕ) → front (two_sizes (suc k) e x y) ≡ two_sizes k e x y
unfolding two_sizes front
front_two zero zero x y = refl
front_two zero (suc e) x y = refl
front_two (suc k) zero x y = ap (λ l. y ∷ l) (front_two k zero x y)
front_two (suc k) (suc zero) x y = ap (λ l. x ∷ l) (front_two k zero x y)
front_two (suc k) (suc (suc e)) x y = ap (λ l. x ∷ l) (front_two k (suc e) x y)

front_less : (ms : List ℕ) → 0 < length ms → with_one (front ms) < with_one ms
unfolding front with_one
front_less [] h = absurd (not-suc-le-zero h)
front_less (m ∷ []) h = omega arith
front_less (m ∷ k ∷ ms) h = omega (arith, front_less (k ∷ ms) (omega arith))

-- The bytes of the fields of a pointer to a subtree of depth d.
abbrev child_pointer : Request → ℕ → ChildPointer
child_pointer q d =
    record { offset_size = q.geometry.offset_size; count_size = count_width q.geometry; total_size = total_width q.geometry d }

module _ (q : Request) (d : ℕ) where
  -- A subtree as a child.
  abbrev child_at : ℕ → Child
  child_at m = record { records = count d (subtree q d m); total = size d (subtree q d m); nodes = subtree_nodes q d m }

  unfoldable children_at : List ℕ → List Child
  children_at [] = []
  children_at (m ∷ ms) = child_at m ∷ children_at ms

  children_two : (k e x y : ℕ) → children_at (two_sizes k e x y) ≡ two_sizes k e (child_at x) (child_at y)
  unfolding two_sizes children_at
  children_two zero e x y = refl
  children_two (suc k) zero x y = ap (λ z. child_at y ∷ z) (children_two k zero x y)
  children_two (suc k) (suc e) x y = ap (λ z. child_at x ∷ z) (children_two k e x y)

  nodes_all : (ms : List ℕ) → nodes_of_all (children_at ms) ≡ sum_by (subtree_nodes q d) ms
  unfolding nodes_of_all children_at
  nodes_all [] = refl
  nodes_all (m ∷ ms) = omega (arith, nodes_all ms, sum_by-cons (subtree_nodes q d) m ms)

  root_place : (j m : ℕ) → j + (subtree_nodes q d m - 1) ≡ j + below d (subtree q d m)
  unfolding nodes
  root_place j m = omega arith

module _ (q : Request) (recs : List ℕ) (d : ℕ) where
  -- The images of subtrees of these numbers of records, one after another.
  unfoldable pub images : List ℕ → ℕ → ℕ → List ℕ
  images [] j r = []
  images (m ∷ ms) j r = subtree_image q recs d m j r ++ images ms (j + subtree_nodes q d m) (r + m + 1)

  -- Each has as many records as it says.
  abbrev Sized : List ℕ → Type 0
  Sized = All (λ m. size d (subtree q d m) ≡ m)

  pub images_kids : (ms : List ℕ) → 0 < length ms → Sized ms → (j r : ℕ)
      → kids_image q recs d (image q recs d) (kids_of (subtree q d) ms) j r ≡ images ms j r
  unfolding kids_of kids_image images subtree_image
  images_kids [] h s j r = absurd (not-suc-le-zero h)
  images_kids (m ∷ []) h s j r = sym (append-nil _)
  images_kids (m ∷ k ∷ ms) h s j r =
      rw (s 0 0 h, images_kids (k ∷ ms) (omega arith) (λ i e b. s (suc i) e (omega arith)) (j + nodes d (subtree q d m)) (r + m + 1))

  records_kids : (ms : List ℕ) → 0 < length ms → Sized ms → (r : ℕ)
      → own_fields q recs d (kids_of (subtree q d) ms) r ≡ records_after q.geometry.record_size recs (front ms) r
  unfolding kids_of own_fields records_after front
  records_kids [] h s r = absurd (not-suc-le-zero h)
  records_kids (m ∷ []) h s r = refl
  records_kids (m ∷ k ∷ ms) h s r = rw (s 0 0 h, records_kids (k ∷ ms) (omega arith) (λ i e b. s (suc i) e (omega arith)) (r + m + 1))

  module _ (p : ChildPointer) (e : p ≡ child_pointer q d) where
    pointer_at_lem : (m j : ℕ) → pointer_fields q d (subtree q d m) j ≡ pointer_to q p (child_at q d m) j
    unfolding pointer_fields pointer_to
    pointer_at_lem m j = rw (e, root_place q d j m)

    pointers_kids : (ms : List ℕ) → 0 < length ms → (j : ℕ)
        → all_pointer_fields q d (kids_of (subtree q d) ms) j ≡ pointers_to q p (children_at q d ms) j
    unfolding kids_of all_pointer_fields pointers_to children_at
    pointers_kids [] h j = absurd (not-suc-le-zero h)
    pointers_kids (m ∷ []) h j = pointer_at_lem m j ∙ sym (append-nil _)
    pointers_kids (m ∷ k ∷ ms) h j = rw (pointer_at_lem m j, pointers_kids (k ∷ ms) (omega arith) (j + nodes d (subtree q d m)))

-- The planned node of level d + 1 for n records.
module _ (q : Request) (recs : List ℕ) (d n : ℕ) (thick : thin (capacities q) (suc d) n ≡ false) where
  abbrev pub cap : ℕ
  cap = capacities q d

  pub sized : All (λ m. size d (subtree q d m) ≡ m) (children cap n)
  sized i e b = plan_size (capacities q) d _ (thin_children (capacities q) d n thick i e b)

  pub nodes_node : subtree_nodes q (suc d) n ≡ sum_by (subtree_nodes q d) (children cap n) + 1
  nodes_node = plan_nodes (capacities q) d n ∙ rw (sum_of_children (λ m. nodes d (subtree q d m)) cap n)

  -- The numbers of the node as the code has them.
  pub record Numbers (x : InternalNode) : Type 0 where
    pub kept : x.distributed.kept ≡ taken cap n
    pub base : x.distributed.base ≡ share cap n
    pub extra : x.distributed.extra ≡ extra cap n
    pub large : 0 < x.distributed.extra → x.large ≡ child_at q d (share cap n + 1)
    pub small : x.small ≡ child_at q d (share cap n)
    pub pointer : pointer_of q x ≡ child_pointer q d

  module _ (x : InternalNode) (is : Numbers x) where
    shares_are : child_shares x ≡ front (children cap n)
    shares_are =
        rw (is.kept, is.extra, is.base, ← two_children, add-one, front_two)

    children_are : children_of x ≡ children_at q d (children cap n)
    children_are =
        two_any (x.distributed.kept + 1) x.distributed.extra x.large (child_at q d (share cap n + 1)) x.small is.large
        ∙ rw (is.small, is.kept, is.extra, ← children_two q d, two_children)

    -- The fields that the code puts are those of the planned node.
    pub fields_are : internal_node_fields q recs x ≡ internal_fields q recs d (kids_of (subtree q d) (children cap n)) x.first.nodes x.first.records
    unfolding internal_node_fields content_fields internal_fields
    fields_are =
        let own = records_kids q recs d (children cap n) (children_some cap n) sized x.first.records in
        let below = pointers_kids q recs d (pointer_of q x) is.pointer (children cap n) (children_some cap n) x.first.nodes in
        rw (shares_are, children_are, own, below)

    -- So what document 02 says of a node that is being filled holds of what the code puts.
    pub planned_final_then_lent : (lent : List ℕ)
        → FinalThenLent
        (internal_node_fields q recs x)
        (padded q.geometry.node_size (internal_bytes q recs d (kids_of (subtree q d) (children cap n)) x.first.nodes x.first.records))
        lent
    planned_final_then_lent lent = rw fields_are (internal_final_then_lent q recs d _ x.first.nodes x.first.records lent)

    -- The subtree's image: its children's, and its root's.
    pub image_is : subtree_image q recs (suc d) n x.first.nodes x.first.records
        ≡ images q recs d (children cap n) x.first.nodes x.first.records ++ joined (internal_node_fields q recs x)
    unfolding subtree_image image plan_tree
    image_is =
        rw (fields_are, internal_joined, images_kids q recs d (children cap n) (children_some cap n) sized x.first.nodes x.first.records)

    pub nodes_are : nodes_of_all (children_of x) ≡ sum_by (subtree_nodes q d) (children cap n)
    nodes_are = rw (children_are, nodes_all q d (children cap n))

    pub records_within : with_one (child_shares x) ≤ n
    records_within =
        rw shares_are (omega (arith, front_less (children cap n) (children_some cap n), one_each cap n (thin_pos (capacities q) (suc d) n thick)))
