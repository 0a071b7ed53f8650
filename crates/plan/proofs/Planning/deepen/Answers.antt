-- The loop of `deepen`: a level more, and a level that is enough.
use Rattle.plan.proofs.Searching.{sought_enough, sought_turn}
use Rattle.plan.proofs.Planning.deepen.Goals as goal

pub loop-depth-preserved : goal.loop-depth-preserved
loop-depth-preserved c =
    rw c.add_level_above.ensures
    (sought_turn _ _ _ _ c.loop-depth.invariant c.args.self.now.passed c.if-self-level.false c.if-level-eq0.false)

pub returns-then-self-level-clause-found : goal.returns-then-self-level-clause-found
returns-then-self-level-clause-found c = sought_enough _ _ _ _ c.loop-depth.invariant c.if-self-level.true
