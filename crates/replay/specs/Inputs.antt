-- The inputs of the stored lists.
use Rattle.std.specs.Prelude.{List, map, ℕ, ◌+◌, ◌*◌, ◌%◌}
use Rattle.std.specs.List.{range_with_len}

-- Byte i of the checksum input of length n.
abbrev pub byte_of : ℕ → ℕ → ℕ
byte_of n i = (7 * i + 13 * n + 1) % 256

-- Its first k bytes.
unfoldable pub bytes_of : ℕ → ℕ → List ℕ
bytes_of n k = map (byte_of n) (range_with_len 0 k)
