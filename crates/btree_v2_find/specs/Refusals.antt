-- By what a descent is refused: document 02, "One": its refusals are those of the nodes on it.
use Rattle.std.specs.Prelude.{◌≡◌, List, [], ◌∷◌, ℕ, zero, suc, ◌+◌}
use Rattle.refusal.specs.Answer.{Answer, accepted, refused}
use Rattle.node_info.specs.declared.Geometry.{Geometry}
use Rattle.field.specs.declared.Field.{Field}
use Rattle.read_checks.specs.Tests.{root_test}
use Rattle.btree_v2_header.specs.declared.BTreeV2Header.{BTreeV2Header}
use Rattle.btree_v2_collect.specs.Walk.{Tests}
use Rattle.btree_v2_collect.specs.InFile.{at_child}
use Rattle.btree_v2_collect.specs.Collect.{collect_tests}
use Rattle.btree_v2_find.specs.Find.{bound, key_test}
use Rattle.btree_v2_find.specs.Sorted.{record_size}

-- A node: its level, its address and its number of records.
pub record NodeAt : Type 0 where
  pub level : ℕ
  pub address : ℕ
  pub records : ℕ

-- The nodes on the descent from the node of level d at a with n records, that node first and below each the child taken in it, whatever
-- their tests say.
module _ (file : List ℕ) (g : Geometry) (f : Field) (x : ℕ) where
  unfoldable pub nodes_on : ℕ → ℕ → ℕ → List NodeAt
  nodes_on zero a n = record { level = 0; address = a; records = n } ∷ []
  nodes_on (suc d) a n = record { level = suc d; address = a; records = n } ∷ at_child file g (nodes_on d) d a n (bound file g f x a n)

module _ (tests : Tests) where
  -- The test of a node: a leaf's or an internal node's, by its level.
  abbrev pub test_at : ℕ → ℕ → ℕ → Answer
  test_at zero a n = tests.leaf a n
  test_at (suc d) a n = tests.internal d a n

  abbrev pub node_test : NodeAt → Answer
  node_test t = test_at t.level t.address t.records

  -- Of a list of nodes i pass, and the next is refused by this number with these values.
  pub data RefusedAfter (number : ℕ) (values : List ℕ) : ℕ → List NodeAt → Type 0 where
    here : {t : NodeAt} {ts : List NodeAt} → node_test t ≡ refused number values → RefusedAfter number values 0 (t ∷ ts)
    below : {t : NodeAt} {ts : List NodeAt} {i : ℕ} → node_test t ≡ accepted [] → RefusedAfter number values i ts
        → RefusedAfter number values (1 + i) (t ∷ ts)

-- The refusal of a find in `file`, the part from the header's base on, behind i nodes: that of the tests before the root (8 or 16), of the
-- key's field (17) or of a node on the descent.
-- What is tested before it has passed.
module _ (file : List ℕ) (h : BTreeV2Header) (f : Field) (x number : ℕ) (values : List ℕ) where
  pub data RefusedBy : ℕ → Type 0 where
    before_root : root_test (record_size h) h.depth ≡ refused number values → RefusedBy 0
    at_key : root_test (record_size h) h.depth ≡ accepted [] → key_test f (record_size h) ≡ refused number values → RefusedBy 0
    at_node : {i : ℕ} → root_test (record_size h) h.depth ≡ accepted [] → key_test f (record_size h) ≡ accepted []
        → RefusedAfter (collect_tests file h.geometry) number values i
        (nodes_on file h.geometry f x h.depth h.root_node_address h.num_records_in_root)
        → RefusedBy i
