-- The loop of `of` counts each row once.
use Rattle.std.proofs.Common.{◌≡◌, ◌+◌}
use Rattle.replay.proofs.tally.Tally.of.Given as goal

abbrev pub invariant-loop-row : goal.invariant-loop-row
invariant-loop-row g l = goal.F-IsAlwaysCallable g l.agrees × (l.tally.agreed + l.tally.differed ≡ l.row-index)
