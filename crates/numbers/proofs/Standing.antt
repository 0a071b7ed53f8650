-- Bytes that stand in a file at a place.
use mathlib.Core.Path.{◌≡◌, ap}
use mathlib.Core.List.{List, ◌++◌}
use Prim.Native.Nat.{ℕ, ◌+◌, ◌^◌, ◌≤◌, ◌<◌}
use native.Mathlib.Nat.{add-zero}
use native.Mathlib.Omega.{arith}
use lib.ListN.{length, length-append, length-take, length-drop}
use lib.Seq.{take-append_seam, drop-append_seam, take-length}
use Rattle.numbers.specs.Numbers.{le, part, num}
use Rattle.numbers.proofs.Lists.{part_part}
use Rattle.numbers.proofs.Numbers.{num_le, le_length}

-- The bytes xs stand at place p.
abbrev pub Stand : List ℕ → ℕ → List ℕ → Type 0
Stand file p xs = part file p (length xs) ≡ xs

module _ (file : List ℕ) (p : ℕ) where
  -- A part of what stands there.
  stand_part : (xs : List ℕ) → Stand file p xs → (q v : ℕ) → q + v ≤ length xs → part file (p + q) v ≡ part xs q v
  stand_part xs h q v l = rw (← part_part file p (length xs) q v l, h)

  pub stand_left : (a b : List ℕ) → Stand file p (a ++ b) → Stand file p a
  stand_left a b h =
      let e = stand_part (a ++ b) h 0 (length a) (rw length-append (omega arith)) in rw (add-zero, take-append_seam) at e

  pub stand_right : (a b : List ℕ) → Stand file p (a ++ b) → Stand file (p + length a) b
  stand_right a b h =
      rw (stand_part (a ++ b) h (length a) (length b) (rw length-append (omega arith)), drop-append_seam, take-length)

  pub stand_split : (a b : List ℕ) (r : ℕ) → p + length a ≡ r → Stand file p (a ++ b) → Stand file p a × Stand file r b
  stand_split a b r e h = (stand_left a b h, rw e at (stand_right a b h))

  -- The file reaches over it.
  pub stand_end : (xs : List ℕ) → Stand file p xs → 0 < length xs → p + length xs ≤ length file
  stand_end xs h l = omega (arith, simp (length-take, length-drop) at (ap length h))

  -- A field reads what was written.
  pub stand_num : (w x : ℕ) → Stand file p (le w x) → x < 256 ^ w → num file p w ≡ x
  stand_num w x h l = num_le file p w x (rw le_length at h) l
