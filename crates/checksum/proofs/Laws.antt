-- Laws of lookup3's definitions, in the forms in which the functions' proofs have them.
use Rattle.std.proofs.Common.{◌≡◌, ℕ, zero, suc, ◌+◌, ◌-◌, ◌*◌, ◌/◌, ◌%◌, ◌^◌, ◌<◌, ◌≤◌, ◌∙◌, inl, inr, List, [], ◌∷◌, length}
use Rattle.std.proofs.Common.{get_or, drop, take, refl, not-suc-le-zero, add-zero, add_comm, arith, lit<, length-drop, get_or-drop, get_or-take, shr_lt, le-ltb, lt-ltb, w32}
use Rattle.std.specs.Int.{rotate_left}
use Rattle.std.specs.List.{slice_range}
use native.Mathlib.Nat.{mul-mod_left}
use lib.Bits.{bit_or, or_shifted}
use lib.Pow.{mod-pow-add, shl-shr}
use lib.ListN.{get_or-eq_default}
use Rattle.std.proofs.lemmas.Bool.{cases_lt}
use Rattle.std.proofs.lemmas.List.{take_rest}
use Rattle.checksum.specs.declared.Words.{Words}
use Rattle.checksum.specs.Lookup3.{rotated, word, block_added, ended, blocks, lookup3, mixed, final_mixed, started}

-- The two halves of a turned word have no bit in common.
halves : (j k x : ℕ) → x < 2 ^ (k + j) → bit_or (x * 2 ^ k % 2 ^ (j + k)) (x / 2 ^ j) ≡ x * 2 ^ k % 2 ^ (j + k) + x / 2 ^ j
halves j k x h = rw (mod-pow-add, shl-shr, mul-mod_left, add-zero) (or_shifted (x % 2 ^ j) k (x / 2 ^ j) (shr_lt k j h))

rot_at : (j k n x : ℕ) → j + k ≡ n → x < 2 ^ n → bit_or (x * 2 ^ k % 2 ^ n) (x / 2 ^ j) ≡ x * 2 ^ k % 2 ^ n + x / 2 ^ j
rot_at j k n x e h = rw (← e) (halves j k x (rw (← e, add_comm) at h))

pub rot_is : (x k : ℕ) → x < 2 ^ 32 → k < 32 → bit_or (x * 2 ^ k % 2 ^ 32) (x / 2 ^ (32 - k)) ≡ rotated x k
unfolding rotated
rot_is x k hx hk = rot_at (32 - k) k 32 x (omega arith) hx

-- The library's rotation of a word.
pub rotate_left_is : (x k : ℕ) → x < 2 ^ 32 → 0 < k → k < 32 → rotate_left w32 x k ≡ rotated x k
rotate_left_is x k hx h hk =
    let m : k % 32 ≡ k = omega arith in
    let n : (32 - k) % 32 ≡ 32 - k = omega arith in
    rw (m, n) (rot_is x k hx hk)

-- The word of the bytes from i on.
pub word_of : (d x : List ℕ) (i : ℕ) → x ≡ slice_range d i (length d)
    → word d i ≡ get_or x 0 0 + 256 * get_or x 1 0 + 65536 * get_or x 2 0 + 16777216 * get_or x 3 0
unfolding word
word_of d x i e =
    rw (e) (simp (take_rest, get_or-drop, add-zero))

-- A word past the end is 0.
pub word_past : (d : List ℕ) (i : ℕ) → length d ≤ i → word d i ≡ 0
unfolding word
word_past d i h = omega (arith, get_or-eq_default {A = ℕ})

-- The end: no byte left, or some.
pub ended_none : (w : Words) (d : List ℕ) → length d ≡ 0 → ended w d ≡ w.c
unfolding ended
ended_none w [] e = refl
ended_none w (x ∷ xs) e = omega arith

pub ended_some : (w : Words) (d : List ℕ) → 0 < length d → ended w d ≡ (final_mixed (block_added w d)).c
unfolding ended
ended_some w [] h = absurd (not-suc-le-zero h)
ended_some w (x ∷ xs) h = refl

-- A block while more than twelve bytes are left, and the end.
blocks_more : (k : ℕ) (w : Words) (d : List ℕ) → 12 < length d → blocks (suc k) w d ≡ blocks k (mixed (block_added w d)) (drop 12 d)
unfolding blocks
blocks_more k w d h = rw lt-ltb

pub blocks_end : (k : ℕ) (w : Words) (d : List ℕ) → length d ≤ 12 → blocks k w d ≡ ended w d
unfolding blocks
blocks_end zero w d h = refl
blocks_end (suc k) w d h = rw le-ltb

-- Any number that bounds the blocks gives the same.
blocks_same : (j k : ℕ) (w : Words) (d : List ℕ) → length d ≤ j → length d ≤ k → blocks j w d ≡ blocks k w d
blocks_same zero k w d hj hk = rw (blocks_end zero w d (omega arith), blocks_end k w d (omega arith))
blocks_same (suc j) zero w d hj hk = rw (blocks_end (suc j) w d (omega arith), blocks_end zero w d (omega arith))
blocks_same (suc j) (suc k) w d hj hk =
    elim (cases_lt 12 (length d)) [
      | inl h ↦
          rw (blocks_more j w d h, blocks_more k w d h)
          (blocks_same j k (mixed (block_added w d)) (drop 12 d) (simp length-drop (omega arith)) (simp length-drop (omega arith)))
      | inr h ↦ rw (blocks_end (suc j) w d h, blocks_end (suc k) w d h)
    ]

-- A block's words do not depend on what follows it.
word_front : (d : List ℕ) (i : ℕ) → i + 3 < 12 → word (take 12 d) i ≡ word d i
unfolding word
word_front d i h =
    rw (get_or-take 12 d i 0 (omega arith), get_or-take 12 d (i + 1) 0 (omega arith), get_or-take 12 d (i + 2) 0 (omega arith), get_or-take 12 d (i + 3) 0 h)

block_front : (w : Words) (d : List ℕ) → block_added w (take 12 d) ≡ block_added w d
unfolding block_added
block_front w d = rw (word_front d 0 (lit< tt), word_front d 4 (lit< tt), word_front d 8 (lit< tt))

-- A turn of the loop, and its start; the length of what is left bounds the blocks.
pub blocks_turn : (w : Words) (d : List ℕ) → 12 < length d
    → blocks (length d) w d ≡ blocks (length (drop 12 d)) (mixed (block_added w (take 12 d))) (drop 12 d)
blocks_turn w [] h = omega arith
blocks_turn w (x ∷ xs) h =
    let d = x ∷ xs in
    let n : length (drop 12 d) ≡ suc (length xs) - 12 = length-drop 12 d in
    let same = blocks_same (length xs) (length (drop 12 d)) (mixed (block_added w d)) (drop 12 d) (omega arith) (omega arith) in
    rw (block_front w d) (blocks_more (length xs) w d h ∙ same)

pub blocks_start : (d : List ℕ) → lookup3 d ≡ blocks (length d) (started (length d)) d
unfolding lookup3
blocks_start d = refl
