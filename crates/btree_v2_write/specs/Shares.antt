-- An internal node by its children's numbers, as the functions that fill it go by them: the children come in two sizes.
use Rattle.std.specs.Prelude.{ℕ, zero, suc, ◌+◌, ◌-◌, ◌*◌, ◌^◌, ◌≤◌, ◌<◌, List, [], ◌∷◌, ◌++◌}
use Rattle.numbers.specs.Numbers.{le}
use Rattle.node_info.specs.declared.ChildPointer.{ChildPointer}
use Rattle.node_info.specs.Table.{pointer_size}
use Rattle.format.specs.Bytes.{internal_signature, address}
use Rattle.format.specs.Fields.{front_fields, with_end, record_fields}
use Rattle.btree_v2_write.specs.declared.node.Child.{Child}
use Rattle.btree_v2_write.specs.declared.node.InternalNode.{InternalNode}
use Rattle.format.specs.declared.Request.{Request}

-- The first k of children of which the first `extra` are `large` and the others `small`.
unfoldable pub two_sizes : {A : Type 0} → ℕ → ℕ → A → A → List A
two_sizes zero extra large small = []
two_sizes (suc k) zero large small = small ∷ two_sizes k zero large small
two_sizes (suc k) (suc extra) large small = large ∷ two_sizes k extra large small

-- The records of these children, with one more after each.
unfoldable pub with_one : List ℕ → ℕ
with_one [] = 0
with_one (m ∷ ms) = m + 1 + with_one ms

-- The record that follows each of these children; the first record below is record r.
unfoldable pub records_after : ℕ → List ℕ → List ℕ → ℕ → List (List ℕ)
records_after rs recs [] r = []
records_after rs recs (m ∷ ms) r = record_fields rs recs 1 (r + m) ++ records_after rs recs ms (r + m + 1)

-- The fields of a pointer to a child, in as many bytes as p says; the child's first node is node j.
unfoldable pub pointer_to : Request → ChildPointer → Child → ℕ → List (List ℕ)
pointer_to q p x j =
    le p.offset_size (address q (j + (x.nodes - 1))) ∷ le p.count_size x.records ∷ le p.total_size x.total ∷ []

-- The pointers to these children; the first node below is node j.
unfoldable pub pointers_to : Request → ChildPointer → List Child → ℕ → List (List ℕ)
pointers_to q p [] j = []
pointers_to q p (x ∷ xs) j = pointer_to q p x j ++ pointers_to q p xs (j + x.nodes)

unfoldable pub nodes_of_all : List Child → ℕ
nodes_of_all [] = 0
nodes_of_all (x ∷ xs) = x.nodes + nodes_of_all xs

-- The children's numbers of records, but for the last child's; and all children.
abbrev pub child_shares : InternalNode → List ℕ
child_shares x = two_sizes x.distributed.kept x.distributed.extra (x.distributed.base + 1) x.distributed.base

abbrev pub children_of : InternalNode → List Child
children_of x = two_sizes (x.distributed.kept + 1) x.distributed.extra x.large x.small

-- The bytes of the fields of a node's pointers.
abbrev pub pointer_of : Request → InternalNode → ChildPointer
pointer_of q x = record { offset_size = q.geometry.offset_size; count_size = x.count_size; total_size = x.total_size }

-- The pointer to child x fits at `at` of a node of this length, and the address that is in it fits.
pub record PointerFits (q : Request) (length at : ℕ) (x : Child) (p : ChildPointer) (j : ℕ) : Type 0 where
  pub bytes : at + pointer_size p ≤ length
  pub some : 0 < x.nodes
  pub size : 0 < q.geometry.node_size
  pub short : q.start + (j + x.nodes) * q.geometry.node_size < 2 ^ 64

-- So do the pointers to all children of x.
pub record PointersFit (q : Request) (length at : ℕ) (x : InternalNode) : Type 0 where
  pub bytes : at + (x.distributed.kept + 1) * pointer_size (pointer_of q x) ≤ length
  pub large : 0 < x.large.nodes
  pub small : 0 < x.small.nodes
  pub size : 0 < q.geometry.node_size
  pub short : q.start + (x.first.nodes + nodes_of_all (children_of x)) * q.geometry.node_size < 2 ^ 64

-- The fields of an internal node between its front and its end: its own records, and then its pointers.
unfoldable pub content_fields : Request → List ℕ → InternalNode → List (List ℕ)
content_fields q recs x =
    records_after q.geometry.record_size recs (child_shares x) x.first.records
    ++ pointers_to q (pointer_of q x) (children_of x) x.first.nodes

-- All its fields.
unfoldable pub internal_node_fields : Request → List ℕ → InternalNode → List (List ℕ)
internal_node_fields q recs x =
    with_end q.geometry.node_size (front_fields internal_signature q.tree_type ++ content_fields q recs x)

-- The numbers of an internal node that can be filled from a record list of this length.
pub record InternalNodeFits (q : Request) (records : ℕ) (x : InternalNode) : Type 0 where
  pub size : 0 < q.geometry.record_size
  pub few : x.distributed.base < 2 ^ 32
  pub bytes : 10 + (x.distributed.kept * q.geometry.record_size + (x.distributed.kept + 1) * pointer_size (pointer_of q x)) ≤ q.geometry.node_size
  pub in_list : (x.first.records + with_one (child_shares x)) * q.geometry.record_size ≤ records
  pub some : (0 < x.large.nodes) × (0 < x.small.nodes)
  pub short : q.start + (x.first.nodes + nodes_of_all (children_of x)) * q.geometry.node_size < 2 ^ 64
