-- `step`: the place of the record that bounds, where it has the key sought.
use Rattle.btree_v2_find.proofs.Searching.{place_some}
use Rattle.btree_v2_find.proofs.Search.step.Goals as goal

pub returns-in-Some-clause-place : goal.returns-in-Some-clause-place
returns-in-Some-clause-place c =
    place_some _ _ _ _ _ _ _ _ _ _ c.args.self.now.has_key c.bound.ensures c.in-Some.is c.read.ensures c.then_some.ensures
