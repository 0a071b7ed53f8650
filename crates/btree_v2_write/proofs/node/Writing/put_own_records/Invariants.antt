-- The loop of `put_own_records`: what fills the rest, from the place reached on, fills the whole.
use Rattle.btree_v2_write.proofs.Internal.{RecordsLeft}
use Rattle.btree_v2_write.proofs.node.Writing.put_own_records.Given as goal

abbrev pub invariant-loop-i : goal.invariant-loop-i
invariant-loop-i l = RecordsLeft l.record_size l.self.records.now l.internal l.initial.filling l.filling l.next l.i
