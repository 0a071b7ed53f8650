-- The measures of node step and child step: depth and records left, as one falling number.
use Prim.Native.Nat.{◌+◌, ◌-◌}
use Rattle.btree_v2_collect.proofs.Steps.{falling}
use Rattle.btree_v2_collect.proofs.collect.Walk.+collect_children_collect_node.Given as goal

abbrev pub decreases-collect_children : goal.decreases-collect_children
decreases-collect_children l = falling l.under (l.last - l.first + 1)

abbrev pub decreases-collect_node : goal.decreases-collect_node
decreases-collect_node l = falling l.level 0
