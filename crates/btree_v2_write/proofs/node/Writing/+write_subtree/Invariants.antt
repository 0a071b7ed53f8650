-- The measure of `write_subtree`: the depth. The loop over the children from child 1 on: what is left to store, stored at the node reached, gives
-- all of it.
use Rattle.btree_v2_write.proofs.Subtrees.{KidsLeft}
use Rattle.btree_v2_write.proofs.node.Writing.+write_subtree.Given as goal

abbrev pub decreases-write_subtree : goal.decreases-write_subtree
decreases-write_subtree l = l.depth

abbrev pub invariant-loop-i : goal.invariant-loop-i
invariant-loop-i l =
    KidsLeft l.self.request l.self.records.now l.initial.image l.depth l.n l.at.nodes l.at.records l.distributed.kept l.distributed.base l.distributed.extra
    l.large l.image l.small l.next.nodes l.next.records l.i
