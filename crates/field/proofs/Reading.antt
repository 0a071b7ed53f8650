-- A number read from 8 bytes at once: the bytes, and the low ones of them.
use mathlib.Core.Path.{◌≡◌, refl, ◌∙◌}
use mathlib.Core.Logic.{⊎_elim}
use mathlib.Core.List.{List}
use Prim.Native.Nat.{ℕ, ◌+◌, ◌-◌, ◌*◌, ◌/◌, ◌%◌, ◌^◌, ◌≤◌, ◌<◌, min}
use native.Mathlib.Nat.{add-zero, mul_comm, add_comm, mod-eq_of_lt, add-mul-mod_self_left}
use native.Mathlib.Omega.{arith}
use lib.Dec.{leb}
use lib.Pow.{shl-shr, field}
use lib.ListN.{length, get_or}
use borrow.Author.Tests.{le-leb}
use Rattle.std.specs.Array.{IsFirstChunk}
use Rattle.std.specs.Int.{from_le_bytes}
use mir.Syntax.{w64}
use Rattle.std.proofs.lemmas.Nat.{div-mul-add}
use Rattle.std.proofs.lemmas.Bool.{cases_lt}
use Rattle.numbers.specs.Numbers.{pick, part, num, saturated}
use Rattle.numbers.proofs.Lists.{length_part, part_part, part_rest}
use Rattle.numbers.proofs.Numbers.{num_add, num_lt, pow_256}
use Rattle.numbers.proofs.Copying.{num_saturated}
use Rattle.numbers.proofs.Reading.{bytes_num}

-- `read_eight`: the number in the first 8 bytes, where there are so many.
pub eight_there : (l y : List ℕ) → IsFirstChunk l y 8 → from_le_bytes w64 y ≡ pick (leb 8 (length l)) (num l 0 8) 0
eight_there l y first = rw (le-leb 8 (length l) first.enough, bytes_num l 0 7 first.enough y first.same)

-- `low_bytes`: x without the bits above.
pub low_some : (x w m : ℕ) → m ≡ min w 8 → x * 2 ^ (8 * (8 - m)) % 2 ^ 64 / 2 ^ (8 * (8 - m)) ≡ x % 256 ^ min w 8
low_some x w m e =
    let all : 8 * m + 8 * (8 - m) ≡ 64 = omega arith in
    rw (← e, pow_256) (rw (all, shl-shr) at (field (x * 2 ^ (8 * (8 - m))) (8 * m) (8 * (8 - m))))

-- The number in the first m of m + v bytes.
num_low : (l : List ℕ) (p m v : ℕ) → ((i : ℕ) → get_or l i 0 < 256) → num l p (m + v) % 256 ^ m ≡ num l p m
unfolding num
num_low l p m v bytes =
    ⊎_elim
    (λ (h : p + m < length l). rw (num_add l p m v (omega arith), add-mul-mod_self_left) below)
    (λ (h : length l ≤ p + m).
    let past : length l ≤ p + (m + v) = omega arith in
    let same : num l p (m + v) ≡ num l p m = rw (part_rest l p (m + v) past, part_rest l p m h) in
    rw same below)
    (cases_lt (p + m) (length l))
  where
    below : num l p m % 256 ^ m ≡ num l p m
    below = mod-eq_of_lt (num_lt l p m bytes)

-- `read`, at the place, which is saturated.
module _ (d : List ℕ) (p at w : ℕ) (place : at ≡ saturated p) (small : length d < 2 ^ 64) where
  -- Of the last bytes of fewer than 8.
  pub number_short : (r : ℕ) → r ≡ num d at (min w 8) → r ≡ num d p (min w 8)
  number_short r e = rw (e, place, num_saturated)

  -- Of 8 bytes, from the place on or the last.
  pub number_of_eight : ((i : ℕ) → get_or d i 0 < 256) → 8 ≤ length d → at < length d → (first : ℕ) → first ≡ min at (length d - 8)
      → (rest : List ℕ) → rest ≡ part d first (length d - first) → (x : ℕ) → x ≡ pick (leb 8 (length rest)) (num rest 0 8) 0
      → (r : ℕ) → r ≡ x / 2 ^ (8 * (at - first)) % 256 ^ min w 8 → r ≡ num d p (min w 8)
  unfolding num
  number_of_eight bytes eight there first is rest lent x read r low =
      let m = min w 8 in
      let over = at - first in
      let left = 8 - over in
      let eights : over + left ≡ 8 = omega arith in
      let on : first + over ≡ at = omega arith in
      let inside : first + 8 ≤ length d = omega arith in
      let whole : part rest 0 8 ≡ part d first 8 = rw lent (rw add-zero at (part_part d first (length d - first) 0 8 (omega arith))) in
      let long : 8 ≤ length rest = rw lent (omega (arith, length_part d first (length d - first) (omega arith))) in
      let x_is : x ≡ num d first 8 = rw (le-leb 8 (length rest) long, whole) at read in
      let split : num d first 8 ≡ num d at left * 256 ^ over + num d first over =
      rw (eights, on) at (num_add d first over left (omega arith))
      ∙ rw (mul_comm (256 ^ over) (num d at left)) (add_comm (num d first over) (num d at left * 256 ^ over))
      in
      let shifted : x / 2 ^ (8 * over) ≡ num d at left =
      rw (x_is, split, ← pow_256 over) (div-mul-add (num d at left) (256 ^ over) (num d first over) (num_lt d first over bytes))
      in
      let rest_is : num d at left ≡ num d at 8 =
      ⊎_elim
      (λ (h : length d - 8 < at). rw (part_rest d at left (omega arith), part_rest d at 8 (omega arith)) refl)
      (λ (h : at ≤ length d - 8). let e : left ≡ 8 = omega arith in rw e refl)
      (cases_lt (length d - 8) at)
      in
      let some : m + (8 - m) ≡ 8 = omega arith in
      rw (low, shifted, rest_is) (rw some at (num_low d at m (8 - m) bytes) ∙ number_short (num d at m) refl)
