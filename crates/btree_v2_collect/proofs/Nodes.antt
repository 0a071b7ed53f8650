-- An internal node of a tree: it is read by its own sizes, and what it has where it passes its tests.
use Rattle.std.specs.Prelude.{Result, ⊤, Ok}
use Rattle.refusal.specs.declared.Refusal.{Refusal}
use mathlib.Core.Path.{◌≡◌, refl, sym, ap, ◌∙◌}
use mathlib.Core.List.{List, []}
use Prim.Native.Nat.{ℕ, ◌+◌, ◌*◌, ◌^◌, ◌≤◌, ◌<◌}
use native.Mathlib.Nat.{mul-le-mul_right}
use native.Mathlib.Omega.{arith}
use lib.ListN.{length}
use mir.Syntax.{w64}
use mir.Val.{Fits}
use Rattle.numbers.proofs.Numbers.{field_size_le}
use Rattle.refusal.specs.Answer.{accepted, verdict_of}
use Rattle.node_info.proofs.Capacities.{count_width_le}
use Rattle.btree_v2_internal.specs.Internal.{internal_test, pointer_place, child_address, child_records}
use Rattle.node_info.specs.Table.{pointer_size}
use Rattle.btree_v2_leaf.specs.Leaf.{leaf_test}
use Rattle.btree_v2_leaf.proofs.Records as Records
use Rattle.btree_v2_collect.specs.Collect.{collect_tests}
use Rattle.read_checks.specs.declared.Node.{Node}
use Rattle.btree_v2_internal.specs.Pointers.{pointer_at, address_at, records_at}
use Rattle.btree_v2_internal.proofs.Nodes.{internal_there, fields_walked}
use Rattle.btree_v2_internal.specs.declared.Internal.{Internal}
use Rattle.btree_v2_collect.specs.Collecting.{NodeThere, ChildAt, ChildrenLeft, internal_at}
use Rattle.btree_v2_collect.specs.Walk.{record_place}
use Rattle.node_info.specs.declared.Geometry.{Geometry}

-- An internal node x whose children have level d: the code's verdict is that of the walk's test, and its child that of the walk.
module _ (file : List ℕ) (g : Geometry) (d : ℕ) (x : Internal) (is : x ≡ internal_at g d x.node) where
  pub tested_by : (v : Result ⊤ Refusal)
      → verdict_of v ≡ internal_test file x.record_size x.pointer.offset_size (pointer_size x.pointer) x.node.address x.node.records
      → verdict_of v ≡ (collect_tests file g).internal d x.node.address x.node.records
  unfolding collect_tests
  tested_by v code =
      code ∙ ap (λ (y : Internal). internal_test file y.record_size y.pointer.offset_size (pointer_size y.pointer) x.node.address x.node.records) is

  pub child_by : NodeThere file g x.node.address x.node.records → (i : ℕ) (b : Node) → b.address ≡ address_at file x i → b.records ≡ records_at file x i
      → ChildAt file g d x.node.address x.node.records i b
  unfolding pointer_at
  child_by there i b address records =
      let size : x.pointer.offset_size ≤ 8 = rw (ap (λ (y : Internal). y.pointer.offset_size) is) (field_size_le _ there.offset) in
      let narrow : x.pointer.count_size ≤ 8 = rw (ap (λ (y : Internal). y.pointer.count_size) is) (count_width_le _) in
      let walked = fields_walked file x i size narrow in
      record {
        address = address ∙ walked.0 ∙ ap (λ (y : Internal). child_address file y.pointer.offset_size (pointer_place y.record_size (pointer_size y.pointer) x.node.address x.node.records i)) is;
        records = records ∙ walked.1 ∙ ap (λ (y : Internal). child_records file y.pointer.offset_size y.pointer.count_size (pointer_place y.record_size (pointer_size y.pointer) x.node.address x.node.records i)) is;
      }

-- The same of the one that a node is read as.
pub tested_at : (file : List ℕ) (g : Geometry) (d : ℕ) (node : Node) (x : Internal) → x ≡ internal_at g d node → (v : Result ⊤ Refusal)
    → verdict_of v ≡ internal_test file x.record_size x.pointer.offset_size (pointer_size x.pointer) x.node.address x.node.records
    → verdict_of v ≡ (collect_tests file g).internal d node.address node.records
tested_at file g d node x is v code = tested_by file g d (internal_at g d node) refl v (rw is at code)

-- Collecting's tests: the code's verdicts are theirs; and nothing is tested after a child.
module _ (file : List ℕ) (g : Geometry) where
  pub leaf_tested : (a n : ℕ) (v : Result ⊤ Refusal) → verdict_of v ≡ leaf_test file g.record_size a n
      → verdict_of v ≡ (collect_tests file g).leaf a n
  unfolding collect_tests
  leaf_tested a n v code = code

  -- A leaf that passes has its records.
  pub leaf_there : (a n : ℕ) (v : Result ⊤ Refusal) → verdict_of v ≡ leaf_test file g.record_size a n → v ≡ Ok tt → a + 6 + n * g.record_size ≤ length file
  leaf_there a n v code e = Records.leaf_there file g.record_size a n [] (sym code ∙ ap verdict_of e)

  pub none_after : (d p m : ℕ) → accepted [] ≡ (collect_tests file g).child d p m
  unfolding collect_tests
  none_after d p m = refl

  -- An internal node that passes has its records, and offsets have one of the sizes.
  pub node_there : (d a n : ℕ) (v : Result ⊤ Refusal) → verdict_of v ≡ (collect_tests file g).internal d a n → v ≡ Ok tt
      → NodeThere file g a n
  unfolding collect_tests
  node_there d a n v code e =
      let h = internal_there file _ _ _ a n (sym code ∙ ap verdict_of e) in
      record { records = omega (arith, h.0, h.1); offset = h.2 }

-- Record i of a node at a whose n records are there.
module _ (file : List ℕ) (g : Geometry) (a n : ℕ) (there : record_place g a n ≤ length file) (i : ℕ) (h : i < n) where
  pub record_there : record_place g a i + 1 * g.record_size ≤ length file
  record_there =
      let j : i + 1 ≤ n = omega arith in
      omega (arith, mul-le-mul_right g.record_size j)

  module _ (l : length file < 2 ^ 64) where
    pub begin_fits : Fits w64 (a + 6)
    begin_fits = omega (arith, record_there)

-- All children of a node that passed its tests are left.
pub all_left : (file : List ℕ) (g : Geometry) (depth d : ℕ) (node : Node) (x : Internal) → x ≡ internal_at g d node → NodeThere file g node.address node.records
    → d ≤ depth → ChildrenLeft file g depth x d 0 node.records
all_left file g depth d node x is there under =
    rw is (record { is = refl; there = there; under = under; some = omega arith; among = omega arith })
