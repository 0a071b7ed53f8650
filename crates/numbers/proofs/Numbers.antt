-- Laws of numbers in bytes, of the byte width of a count, and of sums and products saturated at 2^64 - 1.
use mathlib.Core.Path.{◌≡◌, refl}
use mathlib.Core.Bool.{Bool, true, false}
use mathlib.Core.List.{List, [], ◌∷◌, ◌++◌}
use mathlib.Core.Logic.{⊎_elim}
use Prim.Native.Nat.{ℕ, zero, suc, ◌+◌, ◌-◌, ◌*◌, ◌/◌, ◌%◌, ◌^◌, ◌≤◌, ◌<◌, max}
use native.Mathlib.Nat.{zero-add, suc-add, mul_assoc, mod-eq_of_lt, div-one, div-div-eq-div-mul, pow-zero, pow-suc, pow-succ', pow-le-pow_right, one-le-pow, not-le_of_lt}
use native.Mathlib.Nat.{lt_of_not-le, le_trans, lt_of_lt_of_le, lt_of_le_of_lt, eq-or-lt_of_le, mul-suc, suc-mul, min-le_left}
use native.Mathlib.Omega.{arith}
use mir.Syntax.{w16, w32}
use mir.Val.{Fits}
use lib.Arith.{mod-mul}
use lib.Count.{count_leading_zeros, leading_top}
use lib.Pow.{pow-add, pow_mono}
use lib.Dec.{ltb, lit<}
use lib.ListN.{length, get_or, drop, length-take, get_or-eq_default}
use borrow.Author.Tests.{ltb-true, ltb-false, ne_eqb, eqb-true}
use Rattle.std.specs.Int.{div_ceil}
use Rattle.std.proofs.lemmas.Bool.{cases_lt}
use Rattle.numbers.specs.Numbers.{le, unle, part, num, saturated, least_from, width, field_size}
use Rattle.numbers.proofs.Lists.{length_part, get_d_part, part_add}
use Rattle.numbers.proofs.Least.{least_from_le, least_le, least_before, least_at}

-- x in w bytes: w numbers, each below 256.
pub le_length : (w x : ℕ) → length (le w x) ≡ w
unfolding le
le_length zero x = refl
le_length (suc w) x = rw (le_length w (x / 256))

-- The lowest v bytes and the w above them.
pub le_add : (v w x : ℕ) → le (v + w) x ≡ le v x ++ le w (x / 256 ^ v)
unfolding le
le_add zero w x = rw (zero-add, pow-zero, div-one)
le_add (suc v) w x = rw (suc-add, le_add v w (x / 256), div-div-eq-div-mul, ← pow-succ')

-- The number in some bytes and more above them.
pub unle_append : (a b : List ℕ) → unle (a ++ b) ≡ unle a + 256 ^ length a * unle b
unfolding unle
unle_append [] b = omega arith
unle_append (x ∷ a) b = rw (unle_append a b, pow-succ', mul_assoc) (omega arith)

-- Bytes hold a number below 256 to the power of their count.
pub unle_lt : (b : List ℕ) → ((i : ℕ) → get_or b i 0 < 256) → unle b < 256 ^ length b
unfolding unle
unle_lt [] h = lit< tt
unle_lt (x ∷ b) h = rw pow-succ' (omega (arith, h 0, unle_lt b (λ i. h (suc i))))

-- What w bytes of x hold: x, as far as it fits.
pub unle_le_mod : (w x : ℕ) → unle (le w x) ≡ x % 256 ^ w
unfolding le unle
unle_le_mod zero x = omega arith
unle_le_mod (suc w) x = rw (pow-suc, mod-mul x (one-le-pow w 256 (lit< tt)) (lit< tt), unle_le_mod w (x / 256)) (omega arith)

pub unle_le : (w x : ℕ) → x < 256 ^ w → unle (le w x) ≡ x
unle_le w x h = rw (unle_le_mod, mod-eq_of_lt h)

-- Bytes are those of the number that they hold.
pub le_unle : (b : List ℕ) → ((i : ℕ) → get_or b i 0 < 256) → le (length b) (unle b) ≡ b
unfolding le unle
le_unle [] h = refl
le_unle (x ∷ b) h =
    let low : (x + 256 * unle b) % 256 ≡ x = omega (arith, h 0) in
    let high : (x + 256 * unle b) / 256 ≡ unle b = omega (arith, h 0) in
    rw (low, high, le_unle b (λ i. h (suc i)))

-- A field at which x stands holds x.
pub num_le : (l : List ℕ) (p w x : ℕ) → part l p w ≡ le w x → x < 256 ^ w → num l p w ≡ x
unfolding num
num_le l p w x e h = rw (e, unle_le w x h)

-- A field of what follows a place, of a part, of either side of ++; a field and the one after it.
module _ (l : List ℕ) where
  pub num_add : (p w v : ℕ) → p + w ≤ length l → num l p (w + v) ≡ num l p w + 256 ^ w * num l (p + w) v
  unfolding num
  num_add p w v h = rw (← part_add l p w v, unle_append, length_part l p w h)

  -- The bytes of a part are bytes, and a field of bytes fits its width.
  pub part_bytes : (p w : ℕ) → ((i : ℕ) → get_or l i 0 < 256) → (i : ℕ) → get_or (part l p w) i 0 < 256
  part_bytes p w h i =
      ⊎_elim
      (λ (g : i < w). rw (get_d_part l p w i 0 g) (h (p + i)))
      (λ (g : w ≤ i). rw (get_or-eq_default (part l p w) 0 {n = i} (simp length-take (omega arith))) (lit< tt))
      (cases_lt i w)

  pub num_lt : (p w : ℕ) → ((i : ℕ) → get_or l i 0 < 256) → num l p w < 256 ^ w
  unfolding num
  num_lt p w h =
      lt_of_lt_of_le (unle_lt (part l p w) (part_bytes p w h)) (pow-le-pow_right (lit< tt) (simp length-take (min-le_left w (length (drop p l)))))

-- A number in a field fits a type of as many bytes or more.
module _ (l : List ℕ) (p w x : ℕ) (stored : x ≡ num l p w) (known : (i : ℕ) → get_or l i 0 < 256) where
  num_within : (k : ℕ) → w ≤ k → x < 256 ^ k
  num_within k few = rw stored (lt_of_lt_of_le (num_lt l p w known) (pow-le-pow_right (lit< tt) few))

  pub num_fits_w16 : w ≤ 2 → Fits w16 x
  num_fits_w16 few = omega (arith, num_within 2 few)

  pub num_fits_w32 : w ≤ 4 → Fits w32 x
  num_fits_w32 few = omega (arith, num_within 4 few)

-- The width of a count: from 1 to 8, and the least that holds it.
module _ (x : ℕ) where
  abbrev in_width : ℕ → Bool
  in_width k = ltb x (256 ^ k)

  pub width_pos : 1 ≤ width x
  unfolding width
  width_pos = least_from_le in_width 7 1

  pub width_le : width x ≤ 8
  unfolding width
  width_le = least_le in_width 7 1

  pub width_least : (k : ℕ) → 1 ≤ k → x < 256 ^ k → width x ≤ k
  unfolding width
  width_least k pos h =
      ⊎_elim
      (λ (l : k < width x). absurd (not-le_of_lt h (ltb-false x (256 ^ k) (least_before in_width 7 1 k pos l))))
      (λ (l : width x ≤ k). l)
      (cases_lt k (width x))

  holds : width x < 8 → x < 256 ^ width x
  unfolding width
  holds l = ltb-true x _ (least_at in_width 7 1 l)

pub width_holds : (x : ℕ) → x < 2 ^ 64 → x < 256 ^ width x
width_holds x h =
    ⊎_elim (λ (e : width x ≡ 8). rw e h) (holds x) (eq-or-lt_of_le (width_le x))

pub width_mono : (x y : ℕ) → x ≤ y → width x ≤ width y
width_mono x y h =
    ⊎_elim
    (λ (e : width y ≡ 8). rw e (width_le x))
    (λ (l : width y < 8). width_least x (width y) (width_pos y) (lt_of_le_of_lt h (holds y l)))
    (eq-or-lt_of_le (width_le y))

-- The width of 0, and of any other count by its bits.
pub width_zero : (x : ℕ) → x ≡ 0 → 1 ≡ width x
unfolding width least_from
width_zero x e = rw e

pub pow_256 : (k : ℕ) → 256 ^ k ≡ 2 ^ (8 * k)
pow_256 zero = refl
pow_256 (suc k) = rw (pow-suc, pow_256 k, mul-suc 8 k, pow-add)

bytes_of_bits : (x : ℕ) → x < 2 ^ 64 → (x ≡ 0 → ⊥) → (64 - count_leading_zeros 64 x + 7) / 8 ≡ width x
bytes_of_bits x h ne =
    let top = leading_top 64 x (omega arith) h in
    let up : width x ≤ top.0 / 8 + 1 = width_least x (top.0 / 8 + 1) (omega arith) (rw pow_256 (lt_of_lt_of_le top.3 (pow_mono (omega arith)))) in
    let down : top.0 < 8 * width x = lt_of_not-le (λ (g : 8 * width x ≤ top.0). not-le_of_lt (rw pow_256 at (width_holds x h)) (le_trans (pow_mono g) top.2)) in
    omega (arith, top.1)

pub width_bits : (x : ℕ) → x < 2 ^ 64 → max (div_ceil (64 - count_leading_zeros 64 x) 8) 1 ≡ width x
unfolding count_leading_zeros
width_bits x h =
    ⊎_elim
    (λ (e : x < 1).
    let zero : x ≡ 0 = omega arith in
    rw zero (width_zero 0 refl))
    (λ (l : 1 ≤ x). omega (arith, bytes_of_bits x h (λ e. omega arith), width_pos x))
    (cases_lt x 1)

pub saturated_small : (x : ℕ) → x < 2 ^ 64 → saturated x ≡ x
saturated_small x h = omega arith

pub saturated_mono : (x y : ℕ) → x ≤ y → saturated x ≤ saturated y
saturated_mono x y h = omega arith

pub saturated_add : (a b : ℕ) → saturated (saturated a + b) ≡ saturated (a + b)
saturated_add a b = omega arith

pub saturated_mul : (a b : ℕ) → saturated (a * saturated b) ≡ saturated (a * b)
saturated_mul zero b = omega arith
saturated_mul (suc a) b =
    ⊎_elim
    (λ (h : b < 2 ^ 64). rw (saturated_small b h))
    (λ (h : 2 ^ 64 ≤ b). simp suc-mul (omega arith))
    (cases_lt b (2 ^ 64))

-- The sizes of a field.
module _ (s : ℕ) where
  pub field_size_le : field_size s ≡ true → s ≤ 8
  unfolding field_size
  field_size_le e =
      ⊎_elim
      (λ (h : s < 9). omega arith)
      (λ (h : 9 ≤ s).
      let f : false ≡ true = rw (ne_eqb s 2 (λ x. omega arith), ne_eqb s 4 (λ x. omega arith), ne_eqb s 8 (λ x. omega arith)) at e in
      let z : ◌≡◌ {A = ℕ} 0 1 = cc in
      omega arith)
      (cases_lt s 9)

  -- One that is neither 2 nor 4 is 8.
  pub field_size_8 : field_size s ≡ true → (s ≡ 2 → ⊥) → (s ≡ 4 → ⊥) → s ≡ 8
  unfolding field_size
  field_size_8 e h g = eqb-true s 8 (rw (ne_eqb s 2 h, ne_eqb s 4 g) at e)

  pub field_size_4 : field_size s ≡ true → (s ≡ 2 → ⊥) → 4 ≤ s
  field_size_4 e h =
      ⊎_elim (λ (l : s < 4). let eight = field_size_8 e h (λ x. omega arith) in omega (arith, eight)) (λ (l : 4 ≤ s). l) (cases_lt s 4)
