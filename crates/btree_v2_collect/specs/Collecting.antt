-- The collector's own steps in the terms of the walk: what a tally and an answer say, counts saturated at 2^64 - 1, and what a step is given
-- and leaves.
use Rattle.std.specs.Prelude.{Result, ⊤, ℕ, ◌≤◌, ◌≡◌, List, length, true}
use Rattle.refusal.specs.declared.Refusal.{Refusal}
use Rattle.numbers.specs.Numbers.{saturated, field_size}
use Rattle.node_info.specs.Capacity.{count_width, total_width}
use Rattle.node_info.specs.declared.Geometry.{Geometry}
use Rattle.btree_v2_collect.specs.Walk.{Counts, Run, fine, stopped, if_passed, record_place, pointer_to, address_in, records_in, children_run, node_run}
use Rattle.btree_v2_collect.specs.Collect.{collect_tests}
use Rattle.refusal.specs.Answer.{verdict_of}
use Rattle.btree_v2_collect.specs.declared.Tally.{Tally}
use Rattle.btree_v2_collect.specs.declared.Collected.{Collected}
use Rattle.read_checks.specs.declared.Node.{Node}
use Rattle.btree_v2_internal.specs.declared.Internal.{Internal}

-- The counts of a tally of four numbers.
abbrev pub counts_of : Tally → Counts
counts_of t = record { records = t.records; leaves = t.leaves; internals = t.internals; internal_records = t.internal_records }

-- The tally before anything is read, and the answer of a call that ends there with this verdict.
abbrev pub no_tally : Tally
no_tally = record { records = 0; leaves = 0; internals = 0; internal_records = 0 }

abbrev pub nothing_read : Result ⊤ Refusal → Collected
nothing_read v = record { verdict = v; tally = no_tally }

-- How far a walk has come by an answer, a tally and an output.
abbrev pub run_of : Result ⊤ Refusal → Tally → List ℕ → Run
run_of v t o = if_passed (verdict_of v) (counts_of t) o (fine (counts_of t) o)

-- Counts with those of nodes and of records from internal nodes saturated. The records put out are in the output and need it not.
abbrev pub saturated_counts : Counts → Counts
saturated_counts c =
    record { records = c.records; leaves = saturated c.leaves; internals = saturated c.internals; internal_records = saturated c.internal_records }

abbrev pub saturated_run : Run → Run
saturated_run (fine c o) = fine (saturated_counts c) o
saturated_run (stopped number values c o) = stopped number values (saturated_counts c) o

-- A node as an internal one, of a tree of geometry g, where its children have level d.
abbrev pub internal_at : Geometry → ℕ → Node → Internal
internal_at g d node =
    record {
      node = node;
      record_size = g.record_size;
      pointer = record { offset_size = g.offset_size; count_size = count_width g; total_size = total_width g d };
    }

-- What the tests of an internal node at a with n records have shown where it is read on: its records are there, and offsets have one of the sizes.
pub record NodeThere (file : List ℕ) (g : Geometry) (a n : ℕ) : Type 0 where
  pub records : record_place g a n ≤ length file
  pub offset : field_size g.offset_size ≡ true

-- The child that pointer i of the internal node at a with n records leads to, where the children have level d.
pub record ChildAt (file : List ℕ) (g : Geometry) (d a n i : ℕ) (child : Node) : Type 0 where
  pub address : child.address ≡ address_in file g (pointer_to g d a n i)
  pub records : child.records ≡ records_in file g (pointer_to g d a n i)

-- Children i to k of an internal node that passed its tests, where they have level d.
pub record ChildrenLeft (file : List ℕ) (g : Geometry) (depth : ℕ) (x : Internal) (d i k : ℕ) : Type 0 where
  pub is : x ≡ internal_at g d x.node
  pub there : NodeThere file g x.node.address x.node.records
  pub under : d ≤ depth
  pub some : i ≤ k
  pub among : k ≤ x.node.records

-- The walk x ends as the answer v, the tally t and the output o say, all counts saturated.
pub record Walked (x : Run) (v : Result ⊤ Refusal) (t : Tally) (o : List ℕ) : Type 0 where
  pub ends : saturated_run (run_of v t o) ≡ saturated_run x

-- Collecting's walk over the node of level d at a with n records.
abbrev pub node_walk : List ℕ → Geometry → (d a n : ℕ) → Counts → List ℕ → Run
node_walk file g = node_run file g (collect_tests file g)

-- Its walk over m + 1 children from child i on, with the records between them, of the internal node at a with n records whose children have
-- level d.
abbrev pub children_walk : List ℕ → Geometry → (d a n m i : ℕ) → Counts → List ℕ → Run
children_walk file g d a n = children_run file g (collect_tests file g) d a n (node_walk file g d)
