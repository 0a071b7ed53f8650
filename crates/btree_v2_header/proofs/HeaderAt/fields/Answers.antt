-- `fields` reads the fields.
use mathlib.Core.Path.{◌∙◌}
use native.Mathlib.Omega.{arith}
use Rattle.numbers.proofs.Reading.{bytes_num}
use Rattle.btree_v2_header.proofs.Headers.{fields_are}
use Rattle.btree_v2_header.proofs.HeaderAt.fields.Goals as goal

pub returns : goal.returns
returns c =
    fields_are _ _ _ _ _ _ _ _ _ _ _ c.requires
    (c.from_le_bytes.ensures ∙ bytes_num _ _ 3 (omega arith) _ c.bytes_at.ensures)
    (c.from_le_bytes-2.ensures ∙ bytes_num _ _ 1 (omega arith) _ c.bytes_at-2.ensures)
    (c.from_le_bytes-3.ensures ∙ bytes_num _ _ 1 (omega arith) _ c.bytes_at-3.ensures)
    c.read_sized.ensures
    (c.from_le_bytes-4.ensures ∙ bytes_num _ _ 1 (omega arith) _ c.bytes_at-4.ensures)
    c.read_sized-2.ensures
