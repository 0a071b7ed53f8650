-- An internal node in a file: its tests, and the child that a pointer leads to. From the HDF5 File Format Specification, "Version 2 B-trees",
-- and document 01, "Collecting".
use Rattle.std.specs.Prelude.{ℕ, ◌+◌, ◌-◌, ◌*◌, ◌%◌, List, [], ◌∷◌, length}
use Rattle.numbers.specs.Numbers.{num, field_size}
use Rattle.refusal.specs.Answer.{Answer, accepted, refused, or_else, on_accepted}
use Rattle.format.specs.Bytes.{internal_signature, records_end}
use Rattle.read_checks.specs.Tests.{needs, front_test}

-- The body of an internal node at a with n records of rs bytes and one pointer more, each of w bytes, ow of them the child's address:
-- records, pointers, offset size. The figures of both shortages are of the part of the file from a on.
unfoldable pub internal_body : List ℕ → ℕ → ℕ → ℕ → ℕ → ℕ → Answer
internal_body file rs ow w a n =
    needs (records_end rs n) (length file - a)
    (needs (records_end rs n + (n + 1) * w) (length file - a)
    (or_else (field_size ow) (refused 4 (ow ∷ [])) (accepted [])))

-- Such a node's front and its body.
unfoldable pub internal_test : List ℕ → ℕ → ℕ → ℕ → ℕ → ℕ → Answer
internal_test file rs ow w a n = on_accepted (front_test file internal_signature a) (internal_body file rs ow w a n)

-- The place of its pointer i.
unfoldable pub pointer_place : ℕ → ℕ → ℕ → ℕ → ℕ → ℕ
pointer_place rs w a n i = a + records_end rs n + i * w

-- The child's address and record count in the pointer at place p, of ow and of cw bytes; the count modulo 65,536.
unfoldable pub child_address : List ℕ → ℕ → ℕ → ℕ
child_address file ow p = num file p ow

unfoldable pub child_records : List ℕ → ℕ → ℕ → ℕ → ℕ
child_records file ow cw p = num file (p + ow) cw % 65536
