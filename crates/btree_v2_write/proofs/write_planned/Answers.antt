-- The image, and then the header.
use Rattle.btree_v2_write.proofs.Calls.{sized, table_right, image_ready, root_some, root_short, both_done}
use borrow.Author.Rules.{rules}
use Rattle.btree_v2_write.proofs.write_planned.Goals as goal

pub write_subtree-root-requires : goal.write_subtree-root-requires
write_subtree-root-requires c = record { sized = sized c.requires; table = table_right c.requires; ready = search image_ready }

pub overflow_sub-root : goal.overflow_sub-root
overflow_sub-root c = search (root_some, rules)

pub node_address-requires : goal.node_address-requires
node_address-requires c = search root_short

pub returns : goal.returns
returns c = search both_done
