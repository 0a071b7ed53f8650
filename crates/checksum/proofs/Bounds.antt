-- Every step of lookup3 keeps its words below 2^32.
use Rattle.std.proofs.Common.{ℕ, zero, suc, ◌+◌, ◌-◌, ◌*◌, ◌/◌, ◌%◌, ◌^◌, ◌<◌, Bool, true, false, ltb, List, [], ◌∷◌, length, drop, lt_of_le_of_lt, arith, lit<}
use lib.Bits.{or_lt, xor_lt}
use lib.Pow.{shr_le}
use Rattle.checksum.specs.declared.Words.{Words}
use Rattle.checksum.specs.Lookup3.{pick, minus, rotated, mix_line_of, mixed, final_line_of, final_mixed, started, block_added, ended, blocks, lookup3}
use Rattle.checksum.proofs.Laws.{rot_is}

abbrev Fit : Words → Type 0
Fit w = (w.a < 2 ^ 32) × (w.b < 2 ^ 32) × (w.c < 2 ^ 32)

word_lt : (x : ℕ) → x % 2 ^ 32 < 2 ^ 32
word_lt x = omega arith

rotated_lt : (x k : ℕ) → x < 2 ^ 32 → k < 32 → rotated x k < 2 ^ 32
rotated_lt x k h l =
    rw (← rot_is x k h l) (or_lt 32 (x * 2 ^ k % 2 ^ 32) (x / 2 ^ (32 - k)) (word_lt (x * 2 ^ k)) (lt_of_le_of_lt (shr_le x (32 - k)) h))

mix_line_fits : (k : ℕ) (w : Words) → k < 32 → Fit w → Fit (mix_line_of k w)
unfolding mix_line_of
mix_line_fits k w l f =
    (f.1, word_lt (w.c + w.b), xor_lt 32 (minus w.a w.c) (rotated w.c k) (word_lt _) (rotated_lt w.c k f.2 l))

mixed_fits : (w : Words) → Fit w → Fit (mixed w)
unfolding mixed
mixed_fits w f =
    mix_line_fits 4 _ (lit< tt)
    (mix_line_fits 19 _ (lit< tt)
    (mix_line_fits 16 _ (lit< tt)
    (mix_line_fits 8 _ (lit< tt) (mix_line_fits 6 _ (lit< tt) (mix_line_fits 4 w (lit< tt) f)))))

ended_lt : (w : Words) (d : List ℕ) → Fit w → ended w d < 2 ^ 32
unfolding ended final_mixed final_line_of
ended_lt w [] f = f.2
ended_lt w (x ∷ xs) f = word_lt _

pick_lt : (t : Bool) (x y : ℕ) → x < 2 ^ 32 → y < 2 ^ 32 → pick t x y < 2 ^ 32
pick_lt true x y hx hy = hx
pick_lt false x y hx hy = hy

blocks_lt : (k : ℕ) (w : Words) (d : List ℕ) → Fit w → blocks k w d < 2 ^ 32
unfolding blocks block_added
blocks_lt zero w d f = ended_lt w d f
blocks_lt (suc k) w d f =
    pick_lt (ltb 12 (length d)) _ _
    (blocks_lt k (mixed (block_added w d)) (drop 12 d) (mixed_fits (block_added w d) (word_lt _, word_lt _, word_lt _))) (ended_lt w d f)

pub bounded : (d : List ℕ) → lookup3 d < 2 ^ 32
unfolding lookup3 started
bounded d = blocks_lt (length d) _ d (word_lt _, word_lt _, word_lt _)
