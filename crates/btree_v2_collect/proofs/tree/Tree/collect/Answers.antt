-- From the root on: the walk by the table.
use mathlib.Core.Path.{◌≡◌}
use borrow.Author.Rules.{rules}
use Rattle.btree_v2_collect.specs.Collecting.{no_tally}
use Rattle.btree_v2_collect.proofs.Calls.{ends_walked}
use Rattle.btree_v2_collect.proofs.tree.Tree.collect.Goals as goal

pub returns : goal.returns
returns c =
    let walk = c.collect_node-verdict.new.self in
    let zero : c.default.result ≡ no_tally = search rules in
    ends_walked _ _ walk.tally walk.output.now (rw zero at c.collect_node-verdict.ensures.walked) c.ended.result c.ended.ensures.cells _ (search rules)
