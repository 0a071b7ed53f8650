-- lookup3's hashlittle, start value 0, on a list of bytes: from lookup3.c (Bob Jenkins, May 2006).
use Rattle.std.specs.Prelude.{ℕ, zero, suc, ◌+◌, ◌-◌, ◌*◌, ◌/◌, ◌%◌, ◌^◌, List, [], ◌∷◌, length, drop, bit_xor, nat_lt, slice_index}
use Rattle.checksum.specs.declared.Words.{Words}
pub use Rattle.std.specs.Prelude.{cond as pick}

-- Sums and differences of 32-bit words, modulo 2^32.
abbrev pub plus : ℕ → ℕ → ℕ
plus x y = (x + y) % 2 ^ 32

abbrev pub minus : ℕ → ℕ → ℕ
minus x y = (x + (2 ^ 32 - y)) % 2 ^ 32

-- `rot(x, k)`: a 32-bit word turned left by k bits, 0 < k < 32.
unfoldable pub rotated : ℕ → ℕ → ℕ
rotated x k = x * 2 ^ k % 2 ^ 32 + x / 2 ^ (32 - k)

-- The first line of `mix`, `a -= c; a ^= rot(c, k); c += b;`. Each further line is the one before it with b, c, a written for
-- a, b, c; so the words are handed on in that order.
unfoldable pub mix_line_of : ℕ → Words → Words
mix_line_of k w =
    record { a = w.b; b = plus w.c w.b; c = bit_xor (minus w.a w.c) (rotated w.c k) }

-- `mix`: after six lines each word is back under its own letter.
unfoldable pub mixed : Words → Words
mixed w = mix_line_of 4 (mix_line_of 19 (mix_line_of 16 (mix_line_of 8 (mix_line_of 6 (mix_line_of 4 w)))))

-- The first line of `final`, `c ^= b; c -= rot(b, k);`. Each further line has a, b, c written for c, a, b; the words are handed on
-- in that order.
unfoldable pub final_line_of : ℕ → Words → Words
final_line_of k w = record { a = w.b; b = minus (bit_xor w.c w.b) (rotated w.b k); c = w.a }

-- `final`: after seven lines the words stand one place on from their own letters.
unfoldable pub final_mixed : Words → Words
final_mixed w =
    let r = final_line_of 24 (final_line_of 14 (final_line_of 4 (final_line_of 16 (final_line_of 25 (final_line_of 11 (final_line_of 14 w)))))) in
    record { a = r.c; b = r.a; c = r.b }

-- The start: each word is 0xdeadbeef plus the length.
unfoldable pub started : ℕ → Words
started n = let s = plus 0xdeadbeef n in record { a = s; b = s; c = s }

-- The little-endian 32-bit word from i on; a byte past the end counts as 0.
unfoldable pub word : List ℕ → ℕ → ℕ
word d i = slice_index d i + 256 * slice_index d (i + 1) + 65536 * slice_index d (i + 2) + 16777216 * slice_index d (i + 3)

-- The first twelve bytes of d added to the three words.
unfoldable pub block_added : Words → List ℕ → Words
block_added w d =
    record { a = plus w.a (word d 0); b = plus w.b (word d 4); c = plus w.c (word d 8) }

-- The end, with at most twelve bytes left: c as it is where there are none, else the last block and `final`.
unfoldable pub ended : Words → List ℕ → ℕ
ended w [] = w.c
ended w (x ∷ xs) = (final_mixed (block_added w (x ∷ xs))).c

-- Blocks of twelve bytes while more than twelve remain, and the end; k bounds the number of blocks.
unfoldable pub blocks : ℕ → Words → List ℕ → ℕ
blocks zero w d = ended w d
blocks (suc k) w d =
    let more = blocks k (mixed (block_added w d)) (drop 12 d) in pick (nat_lt 12 (length d)) more (ended w d)

-- The checksum of the bytes d.
unfoldable pub lookup3 : List ℕ → ℕ
lookup3 d = blocks (length d) (started (length d)) d
