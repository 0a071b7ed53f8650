-- What document 02, "Five", changes of collecting. It is refused at a leaf that ends early where it reaches one, and answers as by document
-- 01's test of a leaf where it reaches none.
use mathlib.Core.Path.{◌≡◌, refl}
use mathlib.Core.Logic.{◌⊎◌, inl, inr}
use mathlib.Core.Bool.{Bool, true, false, not}
use mathlib.Core.List.{List, [], ◌∷◌}
use Prim.Native.Nat.{ℕ, zero, suc, ◌+◌, ◌*◌, ◌≤◌}
use native.Mathlib.Omega.{arith}
use lib.ListN.{length}
use Rattle.numbers.specs.Numbers.{saturated}
use Rattle.refusal.specs.Answer.{Answer, accepted, refused, or_else}
use Rattle.node_info.specs.declared.Geometry.{Geometry}
use Rattle.read_checks.specs.Tests.{no_records, root_test}
use Rattle.read_checks.proofs.Plain.{no_figures, root_plain}
use Rattle.btree_v2_header.specs.declared.BTreeV2Header.{BTreeV2Header}
use Rattle.btree_v2_leaf.specs.Leaf.{leaf_test}
use Rattle.btree_v2_leaf.proofs.Checksums.{test_by01, Summed, leaf_summed, EndsEarly, ends_early, leaf_changed}
use Rattle.btree_v2_collect.specs.Walk.{Counts, Run, fine, stopped, if_passed, no_counts, with_internal, Tests, leaf_run, child_run, children_run, node_run}
use Rattle.btree_v2_collect.specs.Collect.{collect_tests, collected}
use Rattle.btree_v2_collect.proofs.Reached.{Place, node, children, run_from, child, child_and_record, run_next, Reaches, here, below, in_child, later, reached_stops}

module _ (file : List ℕ) (g : Geometry) where
  -- Collecting's tests, with document 01's of a leaf.
  unfoldable pub tests_by01 : Tests
  tests_by01 =
      record {
        leaf = test_by01 file g.record_size;
        internal = (collect_tests file g).internal;
        child = (collect_tests file g).child;
      }

  -- From a place on collecting ends as it does by these tests, or it reaches a leaf that ends early.
  pub data Changed (p : Place) (c : Counts) (o : List ℕ) : Type 0 where
    same : run_from file g (collect_tests file g) p c o ≡ run_from file g tests_by01 p c o → Changed p c o
    early : {b m : ℕ} {c1 : Counts} {o1 : List ℕ} → Reaches file g (collect_tests file g) b m c1 o1 p c o → EndsEarly file g.record_size b m
        → Changed p c o

  -- It then ends there.
  pub early_stops : {b m : ℕ} {c1 : Counts} {o1 : List ℕ} {p : Place} {c : Counts} {o : List ℕ}
      → Reaches file g (collect_tests file g) b m c1 o1 p c o → EndsEarly file g.record_size b m
      → run_from file g (collect_tests file g) p c o ≡ stopped 1 (saturated (b + 10 + m * g.record_size) ∷ length file ∷ []) c1 o1
  unfolding collect_tests
  early_stops {b} {m} r e = reached_stops file g (collect_tests file g) (ends_early file g.record_size b m e) r

  at_leaf : (a n : ℕ) (c : Counts) (o : List ℕ) → Changed (node zero a n) c o
  unfolding node_run leaf_run collect_tests tests_by01
  at_leaf a n c o = by (leaf_changed file g.record_size a n)
    where
      by : (leaf_test file g.record_size a n ≡ test_by01 file g.record_size a n) ⊎ EndsEarly file g.record_size a n → Changed (node zero a n) c o
      by (inl e) = same (rw e)
      by (inr e) = early here e

  module _ (d a n : ℕ) where
    at_internal : ((c : Counts) (o : List ℕ) → Changed (children d a n n 0) c o) → (c : Counts) (o : List ℕ) → Changed (node (suc d) a n) c o
    unfolding node_run tests_by01
    at_internal rest c o = by ((collect_tests file g).internal d a n) refl
      where
        on : {figures : List ℕ} → (collect_tests file g).internal d a n ≡ accepted figures → Changed (children d a n n 0) (with_internal c) o
            → Changed (node (suc d) a n) c o
        on e (same h) = same (rw (e, h))
        on e (early r h) = early (below e r) h

        by : (t : Answer) → (collect_tests file g).internal d a n ≡ t → Changed (node (suc d) a n) c o
        by (refused number values) e = same (rw e)
        by (accepted figures) e = on e (rest (with_internal c) o)

    module _ (i : ℕ) (c : Counts) (o : List ℕ) where
      at_last : Changed (child file g (collect_tests file g) d a n i) c o → Changed (children d a n zero i) c o
      unfolding children_run child_run tests_by01
      at_last (same e) = same (rw e)
      at_last (early r e) = early (in_child r) e

      at_child_lem : (left : ℕ) → ((c2 : Counts) (o2 : List ℕ) → Changed (children d a n left (i + 1)) c2 o2)
          → Changed (child file g (collect_tests file g) d a n i) c o → Changed (children d a n (suc left) i) c o
      unfolding child_run tests_by01
      at_child_lem left rest (early r e) = early (in_child r) e
      at_child_lem left rest (same e) = by (one (collect_tests file g)) refl (rw e)
        where
          one : Tests → Run
          one tests = child_and_record file g tests d a n i c o

          on : {c2 : Counts} {o2 : List ℕ} → one (collect_tests file g) ≡ fine c2 o2 → one (collect_tests file g) ≡ one tests_by01
              → Changed (children d a n left (i + 1)) c2 o2 → Changed (children d a n (suc left) i) c o
          on e alike (same h) =
              same (rw (run_next file g (collect_tests file g) d a n left i c o, run_next file g tests_by01 d a n left i c o, ← alike, e) h)
          on e alike (early r h) = early (later e r) h

          by : (r : Run) → one (collect_tests file g) ≡ r → one (collect_tests file g) ≡ one tests_by01 → Changed (children d a n (suc left) i) c o
          by (stopped number values c2 o2) e alike =
              same (rw (run_next file g (collect_tests file g) d a n left i c o, run_next file g tests_by01 d a n left i c o, ← alike, e))
          by (fine c2 o2) e alike = on e alike (rest c2 o2)

  at_children : (d : ℕ) → ((a n : ℕ) (c : Counts) (o : List ℕ) → Changed (node d a n) c o)
      → (a n left i : ℕ) (c : Counts) (o : List ℕ) → Changed (children d a n left i) c o
  at_children d each a n zero i c o = at_last d a n i c o (each _ _ c o)
  at_children d each a n (suc left) i c o = at_child_lem d a n i c o left (at_children d each a n left (i + 1)) (each _ _ c o)

  pub node_changed : (d a n : ℕ) (c : Counts) (o : List ℕ) → Changed (node d a n) c o
  node_changed zero a n = at_leaf a n
  node_changed (suc d) a n = at_internal d a n (at_children d (node_changed d) a n n 0)

-- Collecting by document 01's test of a leaf.
unfoldable pub collected_by01 : List ℕ → BTreeV2Header → List ℕ → Run
collected_by01 file h out =
    let g = h.geometry in
    or_else (not (no_records h.total_records h.num_records_in_root)) (fine no_counts out)
    (if_passed (root_test g.record_size h.depth) no_counts out
    (node_run file g (tests_by01 file g) h.depth h.root_node_address h.num_records_in_root no_counts out))

module _ (file : List ℕ) (h : BTreeV2Header) (out : List ℕ) where
  abbrev rs : ℕ
  rs = h.geometry.record_size

  abbrev root : Place
  root = node h.depth h.root_node_address h.num_records_in_root

  -- Collecting reaches the leaf at b with m records, with the counts c1 and the output o1: it has records, the tests before the root pass, and
  -- the walk from the root reaches it.
  pub record Reached (b m : ℕ) (c1 : Counts) (o1 : List ℕ) : Type 0 where
    pub some : no_records h.total_records h.num_records_in_root ≡ false
    pub rooted : root_test rs h.depth ≡ accepted []
    pub walk : Reaches file h.geometry (collect_tests file h.geometry) b m c1 o1 root no_counts out

  -- It is refused there where the leaf ends early, and what was put out and counted before is left.
  pub collected_early : {b m : ℕ} {c1 : Counts} {o1 : List ℕ} → Reached b m c1 o1 → EndsEarly file rs b m
      → collected file h out ≡ stopped 1 (saturated (b + 10 + m * rs) ∷ length file ∷ []) c1 o1
  unfolding collected
  collected_early r e = rw (r.some, r.rooted) (early_stops file h.geometry r.walk e)

  -- It answers as by document 01's test, or reaches a leaf that ends early.
  pub data CollectedChanged : Type 0 where
    as_before : collected file h out ≡ collected_by01 file h out → CollectedChanged
    at_early : {b m : ℕ} {c1 : Counts} {o1 : List ℕ} → Reached b m c1 o1 → EndsEarly file rs b m → CollectedChanged

  pub collected_changed : CollectedChanged
  unfolding collected collected_by01
  collected_changed = by (no_records h.total_records h.num_records_in_root) refl (root_test rs h.depth) refl (node_changed file h.geometry h.depth _ _ no_counts out)
    where
      by : (t : Bool) → no_records h.total_records h.num_records_in_root ≡ t → (a : Answer) → root_test rs h.depth ≡ a
          → Changed file h.geometry root no_counts out → CollectedChanged
      by true none a e walk = as_before (rw none)
      by false some (refused number values) e walk = as_before (rw (some, e))
      by false some (accepted figures) e (same w) = as_before (rw (some, e, w))
      by false some (accepted figures) e (early r early-leaf) =
          at_early (record { some = some; rooted = rw (no_figures (root_plain rs h.depth) e) at e; walk = r }) early-leaf

  -- Where every leaf that it reaches has the 4 bytes of its checksum, every answer is document 01's.
  pub collected_as_before : ((b m : ℕ) (c1 : Counts) (o1 : List ℕ) → Reached b m c1 o1 → b + 10 + m * rs ≤ length file)
      → collected file h out ≡ collected_by01 file h out
  collected_as_before whole = by collected_changed
    where
      by : CollectedChanged → collected file h out ≡ collected_by01 file h out
      by (as_before e) = e
      by (at_early r e) = absurd (omega (arith, e.short, whole _ _ _ _ r))

  -- Where it accepts, every leaf that it reached has its checksum.
  pub collected_summed : {b m : ℕ} {c1 c : Counts} {o1 o : List ℕ} → collected file h out ≡ fine c o → Reached b m c1 o1 → Summed file rs b m
  unfolding collected collect_tests
  collected_summed {b} {m} accepts r = by (leaf_test file rs b m) refl
    where
      by : (t : Answer) → leaf_test file rs b m ≡ t → Summed file rs b m
      by (accepted figures) e = leaf_summed file rs b m figures e
      by (refused number values) e =
          let stops = reached_stops file h.geometry (collect_tests file h.geometry) e r.walk in
          let z : ◌≡◌ {A = ℕ} 0 1 = let f = rw (r.some, r.rooted, stops) at accepts in cc in
          absurd (omega arith)
