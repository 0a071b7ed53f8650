-- Records put out at once: as many as fit, and 15 where one does not, are what the definition puts out one by one.
use Rattle.std.specs.Prelude.{Ok, Err}
use mathlib.Core.Path.{◌≡◌}
use mathlib.Core.List.{List}
use Prim.Native.Nat.{ℕ, ◌+◌, ◌-◌, ◌*◌, ◌≤◌, ◌<◌}
use native.Mathlib.Nat.{add-zero, add-mul, mul-le-mul_right}
use native.Mathlib.Omega.{arith}
use lib.ListN.{length}
use Rattle.numbers.specs.Numbers.{part}
use Rattle.numbers.specs.Places.{stored, put}
use Rattle.numbers.proofs.Copying.{part_put}
use Rattle.numbers.proofs.Lists.{length_part, length_stored}
use Rattle.btree_v2_collect.specs.Walk.{fine, records_put}
use Rattle.btree_v2_collect.proofs.Outcomes.{put_some}
use Rattle.btree_v2_collect.proofs.Puts.{puts_records}
use Rattle.refusal.specs.declared.Refusal.TheVariants.{OutputTooShort}
use Rattle.btree_v2_collect.specs.declared.Tally.{Tally}
use Rattle.btree_v2_collect.specs.Collecting.{counts_of, Walked}
use Rattle.node_info.specs.declared.Geometry.{Geometry}

-- How many records fit.
abbrev pub Fitting : ℕ → ℕ → ℕ → ℕ → Type 0
Fitting n k room r = (r ≤ n) × (r * k ≤ room) × (r < n → room < (r + 1) * k)

-- `put_records`.
module _ (file : List ℕ) (g : Geometry) (from n : ℕ) (t : Tally) (o : List ℕ) (some : 0 < g.record_size)
    (there : from + n * g.record_size ≤ length file) (within : t.records * g.record_size ≤ length o) (fit : ℕ)
    (fits : Fitting n g.record_size (length o - t.records * g.record_size) fit) where
  -- What fits is there, and has room.
  part_there : from + fit * g.record_size ≤ length file
  part_there = omega (arith, mul-le-mul_right g.record_size fits.0)

  part_room : t.records * g.record_size + fit * g.record_size ≤ length o
  part_room = omega (arith, fits.1)

  records : (t.records + fit) * g.record_size ≤ length o
  records = rw add-mul part_room

  module _ (after : List ℕ) (put : after ≡ put o (t.records * g.record_size) (part file from (from + fit * g.record_size - from))) where
    bytes : length (part file from (fit * g.record_size)) ≡ fit * g.record_size
    bytes = length_part file from (fit * g.record_size) part_there

    records_stored : after ≡ stored o (t.records * g.record_size) (part file from (fit * g.record_size))
    records_stored = part_put o file after (t.records * g.record_size) from (fit * g.record_size) part_room part_there put

    long : length after ≡ length o
    long = rw (records_stored, length_stored o (t.records * g.record_size) (part file from (fit * g.record_size)) (rw bytes part_room))

    abbrev counted : Tally
    counted = record { records = t.records + fit; leaves = t.leaves; internals = t.internals; internal_records = t.internal_records }

    runs : records_put file g fit from (counts_of t) o ≡ fine (counts_of counted) after
    runs = rw records_stored (simp add-zero at ((puts_records file g fit from part_there).runs (counts_of t) o records))

    pub put_all : n ≤ fit → Walked (records_put file g n from (counts_of t) o) (Ok tt) counted after
    put_all h = let e : n ≡ fit = omega (arith, fits.0) in record { ends = rw (e, runs) }

    pub put_part : fit < n → Walked (records_put file g n from (counts_of t) o) (Err (OutputTooShort (length after))) counted after
    put_part h =
        let short : length after < (t.records + fit + 1) * g.record_size = rw long (omega (arith, fits.2 h)) in
        record { ends = rw (put_some file g fit n from (counts_of t) (counts_of counted) o after h runs short) }
