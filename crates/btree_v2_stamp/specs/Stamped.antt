-- What stands before and after the contents of a node, or of the header: signature, version and type; the checksum, and zeros to the node size. A
-- budget says how many of these fields are put.
use Rattle.std.specs.Prelude.{ℕ, ◌+◌, ◌&&◌, List, leb, length, take}
use Rattle.numbers.specs.Numbers.{pick}
use Rattle.numbers.specs.Places.{stored, joined, filled_to}
use Rattle.format.specs.Bytes.{prefix_size}
use Rattle.format.specs.Fields.{front_fields, end_fields}

-- The node with the first `budget` fields of its front, where six bytes are there; else as it was.
unfoldable pub fronted : List ℕ → List ℕ → ℕ → ℕ → List ℕ
fronted node signature type budget =
    pick (leb prefix_size (length node)) (filled_to budget (front_fields signature type) node) node

-- The node with, after its first `used` bytes, the first `budget` of their checksum and the zeros from there to `size`, where that much is
-- there; else as it was.
unfoldable pub stamped : List ℕ → ℕ → ℕ → ℕ → List ℕ
stamped node used size budget =
    pick
    (leb (used + 4) size && leb size (length node))
    (stored node used (joined (take budget (end_fields size (take used node)))))
    node
