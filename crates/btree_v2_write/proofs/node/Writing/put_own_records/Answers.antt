-- The loop of `put_own_records`: what fills the rest, from the place reached on, fills the whole.
use Rattle.btree_v2_write.proofs.Internal.{records_turn, records_end_lem}
use Rattle.btree_v2_write.proofs.node.Writing.put_own_records.Goals as goal

pub loop-i-preserved : goal.loop-i-preserved
loop-i-preserved c = search records_turn

pub returns : goal.returns
returns c = search records_end_lem
