-- Address, record count and total, one after another.
use Rattle.btree_v2_write.proofs.Internal.{pointer_second, pointer_third, pointer_put}
use Rattle.btree_v2_write.proofs.node.Writing.put_pointer.Goals as goal

pub put_number-requires-2 : goal.put_number-requires-2
put_number-requires-2 c = pointer_second _ c.requires c.put_number.ensures

pub put_number-requires-3 : goal.put_number-requires-3
put_number-requires-3 c = pointer_third _ c.requires c.put_number.ensures c.put_number-2.ensures

pub returns : goal.returns
returns c = pointer_put _ c.requires c.put_number.ensures c.put_number-2.ensures c.node_address-address.ensures c.put_number-3.ensures
