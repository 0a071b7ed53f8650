-- A borrowed look at one leaf, which hands out its records: document 01, "Rust forms and their replacements", and document 02, "Two".
use Rattle.std.specs.Prelude.{ℕ, ◌+◌, ◌*◌, List, [], ◌∷◌, leb, ltb, length}
use Rattle.numbers.specs.Numbers.{pick, part}
use Rattle.refusal.specs.Answer.{Answer, accepted, refused, or_else, on_accepted, if_accepted}
use Rattle.numbers.specs.Places.{over}
use Rattle.format.specs.Bytes.{prefix_size}
use Rattle.read_checks.specs.Base.{on_part}
use Rattle.btree_v2_leaf.specs.Leaf.{leaf_test}

-- The tests of a look at the leaf at a with n records of rs bytes: 8, then the leaf's own.
unfoldable pub look_test : List ℕ → ℕ → ℕ → ℕ → Answer
look_test file rs a n = or_else (ltb 0 rs) (refused 8 []) (leaf_test file rs a n)

-- The bytes that are looked at: the leaf's records, or none where a test refused the leaf.
abbrev pub bytes_if : Answer → List ℕ → ℕ → ℕ → ℕ → List ℕ
bytes_if (accepted figures) file rs a n = part file (a + prefix_size) (n * rs)
bytes_if (refused number values) file rs a n = []

unfoldable pub look_bytes : List ℕ → ℕ → ℕ → ℕ → List ℕ
look_bytes file rs a n = bytes_if (look_test file rs a n) file rs a n

-- Record i of n records of rs bytes, or as much of it as there is; nothing where i is not below n.
unfoldable pub record_seen : List ℕ → ℕ → ℕ → ℕ → List ℕ
record_seen bytes rs n i = pick (ltb i n) (part bytes (i * rs) rs) []

-- Record i of a leaf copied to the front of an output: its length, the look's refusal, or 15 where it does not fit; and the output at exit.
unfoldable pub record_answer : List ℕ → ℕ → ℕ → ℕ → ℕ → List ℕ → Answer
record_answer file rs a n i out =
    let b = record_seen (look_bytes file rs a n) rs n i in
    on_accepted (look_test file rs a n)
    (or_else (leb (length b) (length out)) (refused 15 (length out ∷ [])) (accepted (length b ∷ [])))

unfoldable pub record_exit : List ℕ → ℕ → ℕ → ℕ → ℕ → List ℕ → List ℕ
record_exit file rs a n i out =
    if_accepted (record_answer file rs a n i out) (over (record_seen (look_bytes file rs a n) rs n i) out) out

-- The same of the part of the file from a base on; 18, and nothing else, where there is no such part.
module _ (file : List ℕ) (base : ℕ) where
  unfoldable pub look_test_at : ℕ → ℕ → ℕ → Answer
  look_test_at rs a n = on_part file base (refused 18 []) (λ p. look_test p rs a n)

  unfoldable pub look_bytes_at : ℕ → ℕ → ℕ → List ℕ
  look_bytes_at rs a n = on_part file base [] (λ p. look_bytes p rs a n)

  unfoldable pub record_answer_at : ℕ → ℕ → ℕ → ℕ → List ℕ → Answer
  record_answer_at rs a n i out = on_part file base (refused 18 []) (λ p. record_answer p rs a n i out)

  unfoldable pub record_exit_at : ℕ → ℕ → ℕ → ℕ → List ℕ → List ℕ
  record_exit_at rs a n i out = on_part file base out (λ p. record_exit p rs a n i out)
