-- The loop of `copy`: the items before item i are copied.
use Rattle.std.proofs.Common.{◌≡◌, take}
use Rattle.numbers.proofs.copy.Given as goal

abbrev pub invariant-loop-i : goal.invariant-loop-i
invariant-loop-i g l = take l.i l.to ≡ take l.i l.from
