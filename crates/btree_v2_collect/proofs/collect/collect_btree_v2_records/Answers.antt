-- The call, by what opening the tree gives.
use mathlib.Core.Path.{◌≡◌}
use borrow.Author.Rules.{rules}
use Rattle.btree_v2_collect.specs.Collecting.{no_tally}
use Rattle.btree_v2_collect.proofs.Calls.{ends_read, ends_empty, ends_refused}
use Rattle.btree_v2_collect.proofs.collect.collect_btree_v2_records.Goals as goal

pub returns-in-Ok-Some : goal.returns-in-Ok-Some
returns-in-Ok-Some c =
    let opened = rw c.in-Ok-Some.field-0-is at c.in-Ok-Some.ensures in
    ends_read _ _ _ opened.0 _ opened.1 c.collect.result _ c.collect.ensures

pub returns-in-Ok-None : goal.returns-in-Ok-None
returns-in-Ok-None c =
    let zero : c.default.result ≡ no_tally = search rules in
    let opened = rw c.in-Ok-None.field-0-is at c.in-Ok-None.ensures in
    rw (c.ended.ensures.is, zero) (ends_empty _ _ _ opened.0 opened.1)

pub returns-in-Err : goal.returns-in-Err
returns-in-Err c =
    let zero : c.default-in-Err.result ≡ no_tally = search rules in
    rw (c.ended-in-Err.ensures.is, zero) (ends_refused _ _ _ _ c.in-Err.ensures)
