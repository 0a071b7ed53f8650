-- `read_le`: a fold over the bytes, the highest first. And the library's number in bytes.
use mathlib.Core.Path.{◌≡◌, refl, sym, ◌∙◌}
use mathlib.Core.List.{List, [], ◌∷◌, reverse}
use Prim.Native.Nat.{ℕ, zero, suc, ◌+◌, ◌*◌, ◌%◌, ◌^◌, ◌≤◌, ◌<◌}
use native.Mathlib.Nat.{add-zero, zero-add, pow-le-pow_right, lt_of_lt_of_le, mod-eq_of_lt}
use native.Mathlib.Numerals.{add-one}
use native.Mathlib.Omega.{arith}
use lib.Dec.{lit<}
use lib.ListN.{length, get_or}
use Rattle.std.specs.List.{fold}
use Rattle.std.specs.Int.{byte_worth, sum_through}
use Rattle.std.specs.Int.Bits.{bit_or}
use Rattle.std.proofs.lemmas.Nat.{or_shifted}
use Rattle.std.proofs.lemmas.List.Sums.{fold-append}
use Rattle.std.proofs.lemmas.List.{reverse-append}
use Rattle.numbers.specs.Numbers.{unle, part, num}
use Rattle.numbers.proofs.Lists.{length_part, part_cons, part_part}
use Rattle.numbers.proofs.Numbers.{unle_lt, num_add}

-- One byte more below the others.
abbrev pub joined_below : ℕ → ℕ → ℕ
joined_below x byte = bit_or (x * 2 ^ 8 % 2 ^ 64) byte

pub read_back : (l : List ℕ) → length l ≤ 8 → ((i : ℕ) → get_or l i 0 < 256) → fold joined_below 0 (reverse l) ≡ unle l
unfolding unle
read_back [] short bytes = refl
read_back (x ∷ l) short bytes =
    let room : unle l < 2 ^ 56 = lt_of_lt_of_le (unle_lt l (λ i. bytes (suc i))) (pow-le-pow_right (lit< tt) {j = 7} (omega arith)) in
    let fits : unle l * 2 ^ 8 < 2 ^ 64 = omega arith in
    let join = or_shifted (unle l) 8 x (bytes 0) in
    rw (reverse-append (x ∷ []) l, fold-append joined_below 0 (reverse l) (x ∷ []), read_back l (omega arith) (λ i. bytes (suc i)), mod-eq_of_lt fits, join) (omega arith)

-- A number in one byte.
pub num_1 : (l : List ℕ) (p : ℕ) → p < length l → num l p 1 ≡ get_or l p 0
unfolding num unle
num_1 l p h = rw (part_cons l p 0 0 h) (omega arith)

-- The library's number in k + 1 bytes is theirs: in the first of a list, and in those at a place.
front_num : (b : List ℕ) (k : ℕ) → k < length b → sum_through (λ i. byte_worth i (get_or b i 0)) k ≡ num b 0 (suc k)
front_num b zero h = sym (num_1 b 0 h)
front_num b (suc k) h =
    let more : num b 0 (suc (suc k)) ≡ num b 0 (suc k) + 256 ^ suc k * num b (suc k) 1 = rw (add-one, zero-add) at (num_add b 0 (suc k) 1 (omega arith)) in
    rw (more, num_1 b (suc k) h, front_num b k (omega arith)) (omega arith)

pub bytes_num : (l : List ℕ) (p k : ℕ) → p + suc k ≤ length l → (b : List ℕ) → b ≡ part l p (suc k)
    → sum_through (λ i. byte_worth i (get_or b i 0)) k ≡ num l p (suc k)
unfolding num
bytes_num l p k there b e =
    rw e
    (front_num (part l p (suc k)) k (omega (arith, length_part l p (suc k) there)) ∙ rw (part_part l p (suc k) 0 (suc k) (omega arith), add-zero))
