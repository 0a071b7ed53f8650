-- `descend`: a node of each level in turn, and the leaf.
use Rattle.btree_v2_find.proofs.Descending.{internal_there, internal_turn, leaf_searched, leaf_found}
use Rattle.std.proofs.Common.{arith}
use Rattle.btree_v2_find.proofs.Search.descend.Goals as goal

pub step-step-requires : goal.step-step-requires
step-step-requires c =
    internal_there _ _ _ _ _ _ c.loop-level.invariant _ c.fill.ensures c.args.self.now.tree.deep c.loop-level-test.true _ c.new-internal.ensures c.in_ok-check.ensures

pub loop-level-preserved : goal.loop-level-preserved
loop-level-preserved c =
    internal_turn _ _ _ _ _ _ c.loop-level.invariant _ c.fill.ensures c.args.self.now.tree.deep c.loop-level-test.true _ c.new-internal.ensures c.in_ok-check.ensures
    _ c.step-step.ensures.child _ c.step-step.ensures.place _ c.or-kept.ensures _ c.child-node.ensures.address c.child-node.ensures.records

pub step-requires : goal.step-requires
step-requires c = leaf_searched _ _ _ _ _ _ c.loop-level.invariant (omega arith) (rw c.new-leaf.ensures at c.in_ok-check-2.ensures)

pub returns : goal.returns
returns c = leaf_found _ _ _ _ _ _ c.loop-level.invariant (omega arith) (rw c.new-leaf.ensures at c.in_ok-check-2.ensures) _ c.step.ensures.place _ c.or.ensures
