-- `bound`: the first record whose key is not below the one sought.
use Rattle.std.proofs.Common.{rules}
use Rattle.btree_v2_find.proofs.Searching.{position_is}
use Rattle.btree_v2_find.proofs.Search.bound.Goals as goal

pub returns : goal.returns
returns c =
    let cut = c.chunks_exact.ensures in
    position_is _ _ _ _ _ _ _ _ _ c.args.self.now.has_key c.requires cut.size (rw c.records_in.ensures at cut.rest) cut.runs (λ a r q h. search rules)
    (λ y b h. search rules) _ c.position.ensures.runs
