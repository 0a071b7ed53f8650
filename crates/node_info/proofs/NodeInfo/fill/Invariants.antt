-- The loop of `fill` has the table of the level that it is at.
use mathlib.Core.Path.{◌≡◌}
use Rattle.node_info.specs.Table.{info_at}
use Rattle.node_info.proofs.NodeInfo.fill.Given as goal

abbrev pub invariant-loop-level : goal.invariant-loop-level
invariant-loop-level l = l.self ≡ info_at l.geometry l.level
