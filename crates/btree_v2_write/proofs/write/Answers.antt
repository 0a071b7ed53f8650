-- Refused, or written as planned.
use Rattle.btree_v2_write.proofs.Calls.{wrote_refused, accepted_planned, wrote_accepted}
use borrow.Author.Rules.{rules}
use Rattle.btree_v2_write.proofs.write.Goals as goal

pub returns-in_err-planned : goal.returns-in_err-planned
returns-in_err-planned c = let refused = wrote_refused _ _ _ c.check.ensures c.in_err-planned.was in search (rules, refused)

pub write_planned-requires : goal.write_planned-requires
write_planned-requires c = accepted_planned _ _ _ c.check.ensures c.in_ok-planned.was

pub returns : goal.returns
returns c = wrote_accepted _ _ _ c.check.ensures c.in_ok-planned.was c.write_planned.ensures
