-- The loop of `deepen` has the table up to the depth that it is at, and each level below is too small and holds records.
use Rattle.plan.proofs.Searching.{Sought}
use Rattle.plan.proofs.Planning.deepen.Given as goal

abbrev pub invariant-loop-depth : goal.invariant-loop-depth
invariant-loop-depth l = Sought l.self.record_count l.self.geometry l.info l.depth
