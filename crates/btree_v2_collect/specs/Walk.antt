-- The walk over a tree in a file, which puts its records out: document 01, "Collecting". Its tests of a leaf, of an internal node and after
-- a child are parameters.
use Rattle.std.specs.Prelude.{ℕ, zero, suc, ◌+◌, ◌-◌, ◌*◌, List, [], ◌∷◌, leb, length}
use Rattle.numbers.specs.Numbers.{part}
use Rattle.numbers.specs.Places.{stored}
use Rattle.refusal.specs.Answer.{Answer, accepted, refused, or_else}
use Rattle.node_info.specs.declared.Geometry.{Geometry}
use Rattle.node_info.specs.Capacity.{count_width, pointer_size_to}
use Rattle.format.specs.Bytes.{prefix_size}
use Rattle.btree_v2_internal.specs.Internal.{pointer_place, child_address, child_records}

-- Records put out, leaves read, internal nodes read, and records from internal nodes.
pub record Counts : Type 0 where
  pub records : ℕ
  pub leaves : ℕ
  pub internals : ℕ
  pub internal_records : ℕ

-- How far a walk has come: the counts and the output, either fine so far or stopped by a refusal.
pub data Run : Type 0 where
  fine : Counts → List ℕ → Run
  stopped : ℕ → List ℕ → Counts → List ℕ → Run

-- Goes on from where a walk is fine.
abbrev pub and_then : Run → (Counts → List ℕ → Run) → Run
and_then (fine c o) next = next c o
and_then (stopped number values c o) next = stopped number values c o

-- Goes on where a test accepts.
abbrev pub if_passed : Answer → Counts → List ℕ → Run → Run
if_passed (accepted figures) c o next = next
if_passed (refused number values) c o next = stopped number values c o

abbrev pub no_counts : Counts
no_counts = record { records = 0; leaves = 0; internals = 0; internal_records = 0 }

abbrev pub with_record : Counts → Counts
with_record c = record { records = c.records + 1; leaves = c.leaves; internals = c.internals; internal_records = c.internal_records }

abbrev pub with_leaf : Counts → Counts
with_leaf c = record { records = c.records; leaves = c.leaves + 1; internals = c.internals; internal_records = c.internal_records }

abbrev pub with_internal : Counts → Counts
with_internal c = record { records = c.records; leaves = c.leaves; internals = c.internals + 1; internal_records = c.internal_records }

abbrev pub with_internal_record : Counts → Counts
with_internal_record c = record { records = c.records; leaves = c.leaves; internals = c.internals; internal_records = c.internal_records + 1 }

-- The walk's tests: of a leaf at an address with a record count; of an internal node by the level of its children, at an address with a
-- record count; and after a child, by its level, the place of its pointer and the number of records that it put out.
pub record Tests : Type 0 where
  pub leaf : ℕ → ℕ → Answer
  pub internal : ℕ → ℕ → ℕ → Answer
  pub child : ℕ → ℕ → ℕ → Answer

-- Puts bytes out as one record of rs bytes, after those that are there; 15 where a record does not fit.
abbrev pub put_bytes : ℕ → List ℕ → Counts → List ℕ → Run
put_bytes rs b c o =
    or_else (leb ((c.records + 1) * rs) (length o)) (stopped 15 (length o ∷ []) c o)
    (fine (with_record c) (stored o (c.records * rs) b))

module _ (g : Geometry) where
  -- The place of record i of the node at a, where i records end.
  abbrev pub record_place : ℕ → ℕ → ℕ
  record_place a i = a + prefix_size + i * g.record_size

  -- The place of the pointer to child i, of level d, of the internal node at a with n records.
  abbrev pub pointer_to : ℕ → ℕ → ℕ → ℕ → ℕ
  pointer_to d a n i = pointer_place g.record_size (pointer_size_to g d) a n i

module _ (file : List ℕ) (g : Geometry) where
  -- The child's address and record count in the pointer at place p.
  abbrev pub address_in : ℕ → ℕ
  address_in p = child_address file g.offset_size p

  abbrev pub records_in : ℕ → ℕ
  records_in p = child_records file g.offset_size (count_width g) p

  -- Puts the record at place p of the file out.
  unfoldable pub put_record : ℕ → Counts → List ℕ → Run
  put_record p = put_bytes g.record_size (part file p g.record_size)

  -- n records from place p on, one by one.
  unfoldable pub records_put : ℕ → ℕ → Counts → List ℕ → Run
  records_put zero p c o = fine c o
  records_put (suc n) p c o = and_then (put_record p c o) (records_put n (p + g.record_size))

  -- Record i of the internal node at a.
  unfoldable pub own_record_run : ℕ → ℕ → Counts → List ℕ → Run
  own_record_run a i c o = and_then (put_record (record_place g a i) c o) (λ c1 o1. fine (with_internal_record c1) o1)

module _ (file : List ℕ) (g : Geometry) (tests : Tests) where
  unfoldable pub leaf_run : ℕ → ℕ → Counts → List ℕ → Run
  leaf_run a n c o = if_passed (tests.leaf a n) c o (records_put file g n (a + prefix_size) (with_leaf c) o)

  -- The walk over the internal node at a with n records whose children have level d, each walked by `node`.
  module _ (d a n : ℕ) (node : ℕ → ℕ → Counts → List ℕ → Run) where
    -- Child i, and the test after it.
    unfoldable pub child_run : ℕ → Counts → List ℕ → Run
    child_run i c o =
        let p = pointer_to g d a n i in
        and_then (node (address_in file g p) (records_in file g p) c o)
        (λ c1 o1. if_passed (tests.child d p (c1.records - c.records)) c1 o1 (fine c1 o1))

    -- Child i and, while records are left, record i and what follows.
    unfoldable pub children_run : ℕ → ℕ → Counts → List ℕ → Run
    children_run zero i c o = child_run i c o
    children_run (suc left) i c o =
        and_then (child_run i c o) (λ c1 o1. and_then (own_record_run file g a i c1 o1) (children_run left (i + 1)))

  -- The walk over the node of level d at address a with n records.
  unfoldable pub node_run : ℕ → ℕ → ℕ → Counts → List ℕ → Run
  node_run zero a n c o = leaf_run a n c o
  node_run (suc d) a n c o =
      if_passed (tests.internal d a n) c o (children_run d a n (node_run d) n 0 (with_internal c) o)
