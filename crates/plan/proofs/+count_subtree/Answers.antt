-- The cycle of `count_subtree`: a node's counts come from its children's two numbers of records.
use Rattle.plan.proofs.Counting.{count_leaf, few_children, count_one, count_two}
use Rattle.plan.proofs.+count_subtree.Goals as goal

pub returns-in_default : goal.returns-in_default
returns-in_default t c = count_leaf _ _ c.in_default.ensures.cases

pub counts-requires : goal.counts-requires
counts-requires t c =
    few_children _ _ _ c.in-Some.ensures.cases.0 _ c.requires _ c.distribute-distributed.ensures _ c.count_subtree-smaller.ensures _ _ c.count_subtree-smaller.ensures

pub returns-then-distributed-eq0 : goal.returns-then-distributed-eq0
returns-then-distributed-eq0 t c =
    count_one _ _ _ c.in-Some.ensures.cases.0 _ c.requires _ c.distribute-distributed.ensures _ c.count_subtree-smaller.ensures
    _ _ c.counts.ensures.nodes c.counts.ensures.leaves c.if-distributed-eq0.true

pub returns : goal.returns
returns t c =
    count_two _ _ _ c.in-Some.ensures.cases.0 _ c.requires _ c.distribute-distributed.ensures _ c.count_subtree-smaller.ensures
    _ _ c.counts-2.ensures.nodes c.counts-2.ensures.leaves c.count_subtree-larger.ensures
