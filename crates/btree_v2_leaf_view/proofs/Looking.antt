-- A look at a leaf: what it hands out of a leaf that passed and of one that was refused, and that this is what collecting puts out.
use mathlib.Core.Path.{◌≡◌, refl, ◌∙◌}
use mathlib.Core.Bool.{Bool, true, false}
use mathlib.Core.List.{List, []}
use Prim.Native.Nat.{ℕ, ◌+◌, ◌*◌, ◌≤◌, ◌<◌}
use native.Mathlib.Nat.{mul-le-mul_right}
use native.Mathlib.Omega.{arith}
use lib.Dec.{ltb}
use lib.ListN.{length}
use Rattle.std.proofs.Common.{zero-le}
use borrow.Author.Tests.{ltb-true, lt-ltb, le-ltb}
use Rattle.numbers.specs.Numbers.{pick, part}
use Rattle.numbers.proofs.Lists.{length_part, part_part, part_past}
use Rattle.refusal.specs.Answer.{accepted, refused}
use Rattle.btree_v2_leaf.specs.Leaf.{leaf_test}
use Rattle.btree_v2_leaf_view.specs.Look.{look_test, look_bytes, record_seen}
use Rattle.refusal.proofs.Answers.{test_passed}
use Rattle.btree_v2_leaf.proofs.Records.{leaf_there}

-- Record i below the count, and from the count on.
module _ (bytes : List ℕ) (rs n i : ℕ) where
  record_below : i < n → record_seen bytes rs n i ≡ part bytes (i * rs) rs
  unfolding record_seen
  record_below h = rw (lt-ltb i n h)

  record_past : n ≤ i → record_seen bytes rs n i ≡ []
  unfolding record_seen
  record_past h = rw (le-ltb i n h)

module _ (file : List ℕ) (rs a n : ℕ) where
  -- A look's tests are those of the leaf where a record has bytes.
  pub look_leaf : 0 < rs → look_test file rs a n ≡ leaf_test file rs a n
  unfolding look_test
  look_leaf h = rw (lt-ltb 0 rs h)

  module _ (figures : List ℕ) (e : look_test file rs a n ≡ accepted figures) where
    pub look_passed : (0 < rs) × (leaf_test file rs a n ≡ accepted figures)
    unfolding look_test
    look_passed = let h = test_passed 8 _ e in (ltb-true 0 rs h.0, h.1)

    look_part : look_bytes file rs a n ≡ part file (a + 6) (n * rs)
    unfolding look_bytes
    look_part = rw e

    -- Record i of a leaf that passed has rs bytes, those from 6 + i * rs of the leaf on.
    pub look_record : (i : ℕ) → i < n → record_seen (look_bytes file rs a n) rs n i ≡ part file (a + 6 + i * rs) rs
    look_record i h =
        record_below (look_bytes file rs a n) rs n i h
        ∙ rw (look_part, part_part file (a + 6) (n * rs) (i * rs) rs (omega (arith, mul-le-mul_right rs h)))

    pub look_record_length : (i : ℕ) → i < n → length (record_seen (look_bytes file rs a n) rs n i) ≡ rs
    look_record_length i h =
        rw (look_record i h, length_part file (a + 6 + i * rs) rs (omega (arith, mul-le-mul_right rs h, leaf_there file rs a n figures look_passed.1)))

  -- From the count on nothing is handed out.
  pub look_past : (i : ℕ) → n ≤ i → record_seen (look_bytes file rs a n) rs n i ≡ []
  look_past i h = record_past (look_bytes file rs a n) rs n i h

  -- Of a leaf that was refused nothing is handed out.
  pub look_refused : (number : ℕ) (values : List ℕ) → look_test file rs a n ≡ refused number values → (i : ℕ)
      → record_seen (look_bytes file rs a n) rs n i ≡ []
  unfolding record_seen look_bytes
  look_refused number values e i = rw e (none (ltb i n))
    where
      none : (b : Bool) → pick {A = List ℕ} b (part [] (i * rs) rs) [] ≡ []
      none true = part_past [] (i * rs) rs zero-le
      none false = refl
