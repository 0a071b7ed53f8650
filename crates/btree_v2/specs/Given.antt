-- What a C function is given, field by field.
use Rattle.std.specs.Prelude.{ℕ}
use Rattle.node_info.specs.declared.Geometry.{Geometry}
use Rattle.format.specs.declared.Request.{Request}
use Rattle.field.specs.declared.Field.{Field}

-- What a write is asked.
abbrev pub asked : ℕ → ℕ → Geometry → ℕ → ℕ → Request
asked tree_type n g lw start =
    record { tree_type = tree_type; record_count = n; geometry = g; length_size = lw; start = start }

-- A field of a record.
abbrev pub field_at : ℕ → ℕ → Field
field_at start width = record { start = start; width = width }
