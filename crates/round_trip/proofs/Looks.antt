-- Collecting of a leaf puts out what a look hands out, record after record; and it is refused as the look is.
use mathlib.Core.Path.{◌≡◌, refl}
use mathlib.Core.List.{List}
use Prim.Native.Nat.{ℕ, zero, suc, ◌+◌, ◌*◌, ◌<◌}
use native.Mathlib.Nat.{zero-add}
use native.Mathlib.Omega.{arith}
use Rattle.refusal.specs.Answer.{accepted, refused}
use Rattle.btree_v2_collect.specs.Walk.{Counts, Run, fine, stopped, and_then, with_leaf, put_bytes, put_record, records_put, leaf_run}
use Rattle.node_info.specs.declared.Geometry.{Geometry}
use Rattle.btree_v2_collect.specs.Collect.{collect_tests}
use Rattle.btree_v2_leaf_view.specs.Look.{look_test, look_bytes, record_seen}
use Rattle.round_trip.specs.Looks.{put_each}
use Rattle.btree_v2_leaf_view.proofs.Looking.{look_leaf, look_passed, look_record}

-- A run goes on alike by steps that are alike.
then_same : (r : Run) (f g : Counts → List ℕ → Run) → ((c : Counts) (o : List ℕ) → f c o ≡ g c o) → and_then r f ≡ and_then r g
then_same (fine c o) f g h = h c o
then_same (stopped number values c o) f g h = refl

-- Collecting of a leaf puts out what a look hands out, record after record; and it is refused as the look is.
module _ (file : List ℕ) (g : Geometry) (a n : ℕ) where
  abbrev hand : ℕ → List ℕ
  hand = record_seen (look_bytes file g.record_size a n) g.record_size n

  module _ (figures : List ℕ) (e : look_test file g.record_size a n ≡ accepted figures) where
    one : (i : ℕ) → i < n → (c : Counts) (o : List ℕ) → put_record file g (a + 6 + i * g.record_size) c o ≡ put_bytes g.record_size (hand i) c o
    unfolding put_record
    one i h c o = rw (look_record file g.record_size a n figures e i h)

    each : (m i : ℕ) → i + m ≡ n → (c : Counts) (o : List ℕ) → records_put file g m (a + 6 + i * g.record_size) c o ≡ put_each g.record_size hand m i c o
    unfolding records_put put_each
    each zero i h c o = refl
    each (suc m) i h c o =
        let place : a + 6 + i * g.record_size + g.record_size ≡ a + 6 + (i + 1) * g.record_size = omega arith in
        rw (one i (omega arith) c o, place)
        (then_same (put_bytes g.record_size (hand i) c o) _ _ (each m (i + 1) (omega arith)))

    pub look_collected : (c : Counts) (o : List ℕ) → leaf_run file g (collect_tests file g) a n c o ≡ put_each g.record_size hand n 0 (with_leaf c) o
    unfolding leaf_run collect_tests
    look_collected c o =
        let first : a + 6 + 0 * g.record_size ≡ a + 6 = omega arith in
        rw ((look_passed file g.record_size a n figures e).1, ← first) (each n 0 (zero-add n) (with_leaf c) o)

  pub look_stopped : (number : ℕ) (values : List ℕ) → 0 < g.record_size → look_test file g.record_size a n ≡ refused number values → (c : Counts) (o : List ℕ)
      → leaf_run file g (collect_tests file g) a n c o ≡ stopped number values c o
  unfolding leaf_run collect_tests
  look_stopped number values h e c o = rw (← look_leaf file g.record_size a n h, e)
