-- The loop of `put_pointers`: what fills the rest, from the place reached on, fills the whole.
use Rattle.btree_v2_write.proofs.Internal.{PointersLeft}
use Rattle.btree_v2_write.proofs.node.Writing.put_pointers.Given as goal

abbrev pub invariant-loop-i : goal.invariant-loop-i
invariant-loop-i l = PointersLeft l.self.request l.internal l.initial.filling l.filling l.next l.i
