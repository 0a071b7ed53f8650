-- The part of a header that has the same length in every file.
use Rattle.std.specs.Prelude.{ℕ, List, [], ◌∷◌, ◌++◌}
use Rattle.numbers.specs.Numbers.{le}
use Rattle.format.specs.Bytes.{header_signature}
use Rattle.format.specs.declared.Request.{Request}

-- The header's first sixteen bytes: signature, version, type, node size, record size, depth, split and merge percent.
unfoldable pub fixed_bytes : Request → ℕ → List ℕ
fixed_bytes q depth =
    header_signature
    ++ (0
    ∷ q.tree_type
    ∷ (le 4 q.geometry.node_size
    ++ (le 2 q.geometry.record_size ++ (le 2 depth ++ (100 ∷ 40 ∷ [])))))
