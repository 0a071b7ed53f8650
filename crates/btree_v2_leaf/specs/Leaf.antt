-- A leaf's tests: document 01, "Collecting", and document 02, "Five".
use Rattle.std.specs.Prelude.{ℕ, ◌+◌, List, [], length}
use Rattle.refusal.specs.Answer.{Answer, accepted, on_accepted}
use Rattle.format.specs.Bytes.{leaf_signature, records_end}
use Rattle.read_checks.specs.Tests.{needs, front_test, checksum_test}

-- The body of a leaf at a with n records of rs bytes: records, the 4 bytes of the checksum, the checksum.
unfoldable pub leaf_body : List ℕ → ℕ → ℕ → ℕ → Answer
leaf_body file rs a n =
    needs (a + records_end rs n) (length file)
    (needs (a + records_end rs n + 4) (length file)
    (checksum_test file a (a + records_end rs n) (accepted [])))

-- Such a leaf: its front and its body.
unfoldable pub leaf_test : List ℕ → ℕ → ℕ → ℕ → Answer
leaf_test file rs a n = on_accepted (front_test file leaf_signature a) (leaf_body file rs a n)
