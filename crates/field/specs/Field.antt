-- A number field inside a record: whether a record has it, and its number. From document 02, "One".
use Rattle.std.specs.Prelude.{ℕ, ◌+◌, Bool, ◌&&◌, List, leb}
use Rattle.numbers.specs.Numbers.{num}
use Rattle.field.specs.declared.Field.{Field}

-- The field has 1 to 8 bytes, and a record of rs bytes has them all.
unfoldable pub number_field : Field → ℕ → Bool
number_field f rs = (leb 1 f.width && leb f.width 8) && leb (f.start + f.width) rs

-- Its number in the record at place p of some bytes, low byte first. (`read` gives it where the width is 8 at most.)
unfoldable pub number_at : List ℕ → Field → ℕ → ℕ
number_at bytes f p = num bytes (p + f.start) f.width
