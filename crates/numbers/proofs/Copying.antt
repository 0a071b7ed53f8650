-- Items that are put at a place; parts at a saturated place.
use mathlib.Core.Path.{◌≡◌, refl}
use mathlib.Core.List.{List}
use Prim.Native.Nat.{ℕ, ◌-◌, ◌+◌, ◌^◌, ◌≤◌, ◌<◌}
use native.Mathlib.Nat.{zero-add, add-sub_cancel_left}
use Rattle.numbers.specs.Places.{stored, over, put}
use Rattle.numbers.proofs.Lists.{length_part, stored_is, part_past, put_fits}
use mathlib.Core.Bool.{Bool, true, false}
use native.Mathlib.Omega.{arith}
use lib.Dec.{leb}
use lib.ListN.{length}
use lib.Seq.{drop-drop}
use borrow.Author.Tests.{leb-true, leb-false}
use borrow.Rule.Slice.PartMut.{put_mid}
use Rattle.numbers.specs.Numbers.{part, num, saturated}

-- No slice reaches a place that is saturated.
pub part_saturated : (l : List ℕ) (p w : ℕ) → length l < 2 ^ 64 → part l (saturated p) w ≡ part l p w
part_saturated l p w h = by (leb p (2 ^ 64 - 1)) refl
  where
    by : (b : Bool) → leb p (2 ^ 64 - 1) ≡ b → part l (saturated p) w ≡ part l p w
    by true e = let s : saturated p ≡ p = omega (arith, leb-true p (2 ^ 64 - 1) e) in rw s
    by false e =
        let over = leb-false p (2 ^ 64 - 1) e in
        rw (part_past l (saturated p) w (omega arith), part_past l p w (omega arith))

pub num_saturated : (l : List ℕ) (p w : ℕ) → length l < 2 ^ 64 → num l (saturated p) w ≡ num l p w
unfolding num
num_saturated l p w h = rw (part_saturated l p w h)

-- `put`: a part that was lent, back at its place.
pub items_put : {A : Type 0} (o b d : List A) (at : ℕ) → d ≡ b → at + length b ≤ length o → put_mid at (at + length b - at) o d ≡ put o at b
items_put o b d at e h = rw (e, put_fits o at b h, stored_is, add-sub_cancel_left, drop-drop)

-- A part of another slice that fits.
pub part_put : (o l d : List ℕ) (at from count : ℕ) → at + count ≤ length o → from + count ≤ length l
    → d ≡ put o at (part l from (from + count - from)) → d ≡ stored o at (part l from count)
part_put o l d at from count h m e =
    rw (e, add-sub_cancel_left, put_fits o at (part l from count) (rw (length_part l from count m) h))

-- What a write puts at the front of a buffer, in the terms of storing; and both buffers of one that is accepted.
pub over_stored : (b o : List ℕ) → over b o ≡ stored o 0 b
unfolding over
over_stored b o = rw (stored_is, zero-add)
