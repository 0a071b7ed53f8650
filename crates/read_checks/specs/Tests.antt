-- Tests that the readers share: those before the root, bytes that are there, a signature, a node's front, a checksum. From document 01,
-- "Header reader", "Collecting" and "Causes and numbers".
use Rattle.std.specs.Prelude.{ℕ, ◌+◌, ◌-◌, [], ◌∷◌, List, leb, ltb, eqb, length, Bool, true, false, ◌&&◌, ◌||◌}
use Rattle.numbers.specs.Numbers.{saturated, part, num}
use Rattle.refusal.specs.Answer.{Answer, accepted, refused, or_else}
use Rattle.checksum.specs.Lookup3.{lookup3}
use Rattle.format.specs.Bytes.{prefix_size}

-- Refusal 1 where fewer than `end` bytes are there of `length`.
abbrev pub needs : ℕ → ℕ → Answer → Answer
needs end length rest = or_else (leb end length) (refused 1 (saturated end ∷ length ∷ [])) rest

-- Whether two lists of bytes are the same.
unfoldable pub same : List ℕ → List ℕ → Bool
same [] [] = true
same [] (y ∷ ys) = false
same (x ∷ xs) [] = false
same (x ∷ xs) (y ∷ ys) = eqb x y && same xs ys

-- The front of a node at a: 6 bytes, signature.
unfoldable pub front_test : List ℕ → List ℕ → ℕ → Answer
front_test file signature a =
    needs (a + prefix_size) (length file) (or_else (same (part file a 4) signature) (refused 2 []) (accepted []))

-- Refusal 6 where the four bytes at `end` are not the checksum of those from `from` to there.
unfoldable pub checksum_test : List ℕ → ℕ → ℕ → Answer → Answer
checksum_test file from end rest =
    or_else (eqb (num file end 4) (lookup3 (part file from (end - from))))
    (refused 6 (num file end 4 ∷ lookup3 (part file from (end - from)) ∷ [])) rest

-- A tree without records: N or the root's count is 0.
abbrev pub no_records : ℕ → ℕ → Bool
no_records total root = eqb total 0 || eqb root 0

-- What is tested before the root: record size, depth.
unfoldable pub root_test : ℕ → ℕ → Answer
root_test rs depth =
    or_else (ltb 0 rs) (refused 8 [])
    (or_else (leb depth 32) (refused 16 (depth ∷ []))
    (accepted []))
