-- The loop of `write_le`, which goes up from the lowest byte.
use mathlib.Core.Path.{◌≡◌}
use mathlib.Core.List.{List}
use Prim.Native.Nat.{ℕ, ◌+◌, ◌-◌, ◌/◌, ◌%◌, ◌^◌, ◌≤◌, ◌<◌}
use native.Mathlib.Nat.{zero-add, pow-suc, div-one, div-div-eq-div-mul}
use native.Mathlib.Numerals.{add-one}
use native.Mathlib.Omega.{arith}
use lib.Dec.{leb}
use lib.ListN.{length, set, length-take}
use borrow.Author.Tests.{le-leb, lt-leb}
use borrow.Rule.Slice.PartMut.{put_mid}
use Rattle.numbers.specs.Numbers.{pick, le, part}
use Rattle.numbers.specs.Places.{stored, put}
use Rattle.numbers.proofs.Lists.{stored_nil, stored_snoc, stored_whole, put_not}
use Rattle.numbers.proofs.Copying.{items_put}
use Rattle.numbers.proofs.Numbers.{le_length, le_add}

-- The lowest i bytes of x are stored in d, which held o, and the rest of x is left.
pub record Written (o : List ℕ) (x : ℕ) (d : List ℕ) (rest i : ℕ) : Type 0 where
  pub bytes : d ≡ stored o 0 (le i x)
  pub left : rest ≡ x / 256 ^ i

module _ (o : List ℕ) (x : ℕ) where
  pub written_start : Written o x o x 0
  unfolding le
  written_start = record { bytes = rw stored_nil; left = rw div-one }

  pub written_turn : (d : List ℕ) (rest i : ℕ) → Written o x d rest i → i < length o → Written o x (set d i (rest % 256)) (rest / 256) (i + 1)
  unfolding le
  written_turn d rest i w h =
      let s = stored_snoc o 0 (le i x) (x / 256 ^ i % 256) (rw (le_length, zero-add) h) in
      record { bytes = rw (w.bytes, w.left, le_add i 1 x) (rw (le_length, zero-add) at s); left = rw (w.left, add-one, pow-suc, div-div-eq-div-mul) }

-- What `write_le` ensures: of a field that fits, written in the part that was lent; and of one that doesn't.
abbrev Wrote : List ℕ → ℕ → ℕ → ℕ → List ℕ → ℕ → Type 0
Wrote o at x w d r = (d ≡ put o at (le w x)) × (r ≡ pick (leb (at + w) (length o)) (at + w) at)

module _ (o : List ℕ) (at x w : ℕ) where
  pub not_written : length o < at + w → Wrote o at x w o at
  not_written h = (rw (put_not o at (le w x) (rw le_length h)), rw (lt-leb (at + w) (length o) h))

  pub written_end : (d : List ℕ) (rest i : ℕ) → Written (part o at (at + w - at)) x d rest i → at + w ≤ length o → i ≡ w
      → Wrote o at x w (put_mid at (at + w - at) o d) (at + w)
  written_end d rest i inv h e =
      let room : length (part o at (at + w - at)) ≤ length (le w x) = rw le_length (simp length-take (omega arith)) in
      let all : d ≡ le w x = rw (inv.bytes, e, stored_whole (part o at (at + w - at)) (le w x) room) in
      let there : put_mid at (at + length (le w x) - at) o d ≡ put o at (le w x) = items_put o (le w x) d at all (rw le_length h) in
      (rw le_length at there, rw (le-leb (at + w) (length o) h))
