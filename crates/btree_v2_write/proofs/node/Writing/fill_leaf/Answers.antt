-- Front, records, checksum and zeros, each after the one before, as far as the budget goes.
use Rattle.btree_v2_write.proofs.Puts.{left_behind}
use Rattle.btree_v2_write.proofs.Nodes.{leaf_place, leaf_filled}
use borrow.Author.Rules.{rules}
use Rattle.btree_v2_write.proofs.node.Writing.fill_leaf.Goals as goal

pub put_records-requires : goal.put_records-requires
put_records-requires c = (leaf_place c.args.self.now.request c.args.self.now.records.now c.args.n c.args.r c.requires.0 c.requires.1 c.begin-filling.ensures, c.requires.2)

pub returns : goal.returns
returns c =
    left_behind
    (leaf_filled c.args.self.now.request c.args.self.now.records.now c.args.n c.args.r c.requires.0 c.requires.1 c.begin-filling.ensures c.requires.2
    c.put_records.ensures c.finish.ensures)
    (search rules)
