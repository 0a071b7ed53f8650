-- The cycle of node step and child step, `collect_node` and `collect_children`: depth and children left make one falling number.
use native.Mathlib.Omega.{arith}
use Rattle.btree_v2_collect.proofs.Nodes.{node_there, tested_at, all_left}
use Rattle.btree_v2_collect.proofs.Moves.{middle_refused}
use Rattle.btree_v2_collect.proofs.collect.Walk.+collect_children_collect_node.Goals as goal

pub collect_children-returns-in_default-read-2 : goal.collect_children-returns-in_default-read-2
collect_children-returns-in_default-read-2 t c = search (middle_refused, arith)

pub collect_node-collect_children-requires : goal.collect_node-collect_children-requires
collect_node-collect_children-requires t c =
    let tested = tested_at _ _ _ _ _ c.internal-internal.ensures _ c.check.ensures in
    (omega arith, all_left _ _ _ _ _ _ c.internal-internal.ensures (node_there _ _ _ _ _ _ tested c.in_ok-check.was) (omega arith))
