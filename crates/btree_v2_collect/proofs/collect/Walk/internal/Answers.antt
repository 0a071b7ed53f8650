-- `internal` takes the bytes of a pointer's fields from the table.
use mathlib.Core.Path.{ap, ◌∙◌}
use Rattle.node_info.specs.declared.ChildPointer.{ChildPointer}
use Rattle.node_info.proofs.Columns.{pointer_entry}
use Rattle.btree_v2_internal.specs.declared.Internal.{Internal}
use Rattle.btree_v2_collect.proofs.collect.Walk.internal.Goals as goal

pub returns : goal.returns
returns c =
    let walk = c.args.self.now in
    let tree = walk.tree in
    let internal : ChildPointer → Internal = λ p. record { node = c.args.node; record_size = tree.geometry.record_size; pointer = p } in
    c.new.ensures ∙ ap internal (pointer_entry tree.geometry tree.depth walk.info.now walk.table c.args.under c.requires tree.deep tree.geometry.offset_size)
