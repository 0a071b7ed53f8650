-- The measure of `count_subtree`: the levels below the root.
use lib.ListN.{length}
use Rattle.plan.proofs.+count_subtree.Given as goal

abbrev pub decreases-count_subtree : goal.decreases-count_subtree
decreases-count_subtree l = length l.below.now
