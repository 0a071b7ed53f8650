-- Numbers in bytes: little-endian fields of any width, the byte width of a count, and the largest 64-bit number as a limit. From the
-- HDF5 File Format Specification (integers are little-endian) and document 01, "Checksum and small numbers".
use Rattle.std.specs.Prelude.{ℕ, zero, suc, ◌+◌, ◌-◌, ◌*◌, ◌/◌, ◌%◌, ◌^◌, min, Bool, ◌||◌, List, [], ◌∷◌, ltb, eqb, take, drop}
-- `pick t a b`: a where the test t holds, else b.
pub use Rattle.std.specs.Prelude.{cond as pick}

-- x in w bytes, the lowest first.
unfoldable pub le : ℕ → ℕ → List ℕ
le zero x = []
le (suc w) x = x % 256 ∷ le w (x / 256)

-- The number whose bytes these are, the lowest first.
unfoldable pub unle : List ℕ → ℕ
unle [] = 0
unle (b ∷ bs) = b + 256 * unle bs

-- The w elements from place p on, or as many as there are.
abbrev pub part : {A : Type 0} → List A → ℕ → ℕ → List A
part l p w = take w (drop p l)

-- The number in the field of w bytes at place p.
unfoldable pub num : List ℕ → ℕ → ℕ → ℕ
num l p w = unle (part l p w)

-- x, saturated at 2^64 - 1.
abbrev pub saturated : ℕ → ℕ
saturated x = min x (2 ^ 64 - 1)

-- The least of u, u + 1, .. , u + k of which f holds, u + k if it holds of none before that.
unfoldable pub least_from : (ℕ → Bool) → ℕ → ℕ → ℕ
least_from f zero u = u
least_from f (suc k) u = let later = least_from f k (u + 1) in pick (f u) u later

-- The byte width of a count below 2^64: 1 for 0, else the least k with x < 256^k.
unfoldable pub width : ℕ → ℕ
width x = least_from (λ k. ltb x (256 ^ k)) 7 1

-- The sizes that offsets and lengths may have: 2, 4 or 8 bytes.
unfoldable pub field_size : ℕ → Bool
field_size w = eqb w 2 || (eqb w 4 || eqb w 8)
