-- Front, own records, pointers, checksum and zeros, each after the one before, as far as the budget goes.
use Rattle.btree_v2_write.proofs.Puts.{left_behind}
use Rattle.btree_v2_write.proofs.Internal.{internal_front, internal_room, own_room, pointers_fit, contents_put, internal_filled}
use borrow.Author.Rules.{rules}
use Rattle.btree_v2_write.proofs.node.Writing.fill_internal.Goals as goal

pub put_own_records-requires : goal.put_own_records-requires
put_own_records-requires c =
    let fits = c.requires.numbers in
    let front = internal_front _ fits c.begin-filling.ensures in
    let room = internal_room _ fits c.begin-filling.ensures c.requires.room in
    (fits.few, own_room _ fits c.begin-filling.result room front, fits.in_list, fits.size)

pub put_pointers-requires : goal.put_pointers-requires
put_pointers-requires c =
    let fits = c.requires.numbers in
    let front = internal_front _ fits c.begin-filling.ensures in
    let room = internal_room _ fits c.begin-filling.ensures c.requires.room in
    pointers_fit _ fits _ room front c.put_own_records.ensures

pub returns : goal.returns
returns c =
    let fits = c.requires.numbers in
    let front = internal_front _ fits c.begin-filling.ensures in
    let room = internal_room _ fits c.begin-filling.ensures c.requires.room in
    let contents = contents_put _ fits _ room front c.put_own_records.ensures c.put_pointers.ensures in
    left_behind (internal_filled _ fits c.begin-filling.ensures c.requires.room contents c.finish.ensures) (search rules)
