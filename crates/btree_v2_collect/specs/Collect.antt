-- What collecting answers of any file: document 01, "Collecting", and document 02, "Two".
use Rattle.std.specs.Prelude.{ℕ, not, List, [], ◌∷◌, ◌++◌}
use Rattle.numbers.specs.Numbers.{saturated}
use Rattle.refusal.specs.Answer.{accepted, refused, or_else, cells}
use Rattle.node_info.specs.declared.Geometry.{Geometry}
use Rattle.node_info.specs.Capacity.{pointer_size_to}
use Rattle.read_checks.specs.Base.{on_part}
use Rattle.read_checks.specs.Tests.{no_records, root_test}
use Rattle.btree_v2_collect.specs.Walk.{Counts, Run, fine, stopped, if_passed, no_counts, Tests, node_run}
use Rattle.btree_v2_internal.specs.Internal.{internal_test}
use Rattle.btree_v2_header.specs.declared.BTreeV2Header.{BTreeV2Header}
use Rattle.btree_v2_leaf.specs.Leaf.{leaf_test}

module _ (file : List ℕ) (g : Geometry) where
  -- Collecting's tests; nothing is tested after a child.
  unfoldable pub collect_tests : Tests
  collect_tests =
      record {
        leaf = leaf_test file g.record_size;
        internal = λ d. internal_test file g.record_size g.offset_size (pointer_size_to g d);
        child = λ d p m. accepted [];
      }

-- Collecting the tree of a header into an output.
unfoldable pub collected : List ℕ → BTreeV2Header → List ℕ → Run
collected file h out =
    let g = h.geometry in
    or_else (not (no_records h.total_records h.num_records_in_root)) (fine no_counts out)
    (if_passed (root_test g.record_size h.depth) no_counts out
    (node_run file g (collect_tests file g) h.depth h.root_node_address h.num_records_in_root no_counts out))

-- Collecting the tree of a header out of the part of the file from the header's base on; 18 where there is no such part.
unfoldable pub collected_at : List ℕ → BTreeV2Header → List ℕ → Run
collected_at file h out = on_part file h.base (stopped 18 [] no_counts out) (λ p. collected p h out)

-- A walk's end as the call gives it: number and two values, and the four counts, each saturated at 2^64 - 1.
abbrev pub count_cells : Counts → List ℕ
count_cells c = saturated c.records ∷ saturated c.leaves ∷ saturated c.internals ∷ saturated c.internal_records ∷ []

unfoldable pub run_cells : Run → List ℕ
run_cells (fine c o) = cells 3 (accepted []) ++ count_cells c
run_cells (stopped number values c o) = cells 3 (refused number values) ++ count_cells c

-- The output that a walk leaves.
abbrev pub run_output : Run → List ℕ
run_output (fine c o) = o
run_output (stopped number values c o) = o
