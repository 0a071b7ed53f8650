-- `Planning::lay_out` counts by the table.
use Rattle.plan.proofs.Laying.{laid_countable}
use Rattle.plan.proofs.Planning.lay_out.Goals as goal

pub count_subtree-counts-requires : goal.count_subtree-counts-requires
count_subtree-counts-requires c = laid_countable _ _ c.args.self.now.passed _ _ c.in_ok-depth.ensures.found _ c.is_thin.ensures c.if-is_thin.false
