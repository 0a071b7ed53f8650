-- The loop of `put_pointers`: what fills the rest, from the place reached on, fills the whole.
use Rattle.btree_v2_write.proofs.Internal.{pointer_fits, next_fits, pointers_turn, pointers_end}
use native.Mathlib.Omega.{arith}
use Rattle.btree_v2_write.proofs.node.Writing.put_pointers.Goals as goal

pub put_pointer-requires : goal.put_pointer-requires
put_pointer-requires c = pointer_fits _ _ _ c.loop-i.invariant (omega arith) c.of_child-child.ensures c.requires

pub overflow_add-next : goal.overflow_add-next
overflow_add-next c = next_fits _ _ _ c.loop-i.invariant (omega arith) c.of_child-child.ensures c.requires

pub loop-i-preserved : goal.loop-i-preserved
loop-i-preserved c = pointers_turn _ _ _ c.loop-i.invariant (omega arith) c.of_child-child.ensures c.requires c.put_pointer.ensures

pub returns-2 : goal.returns-2
returns-2 c =
    pointers_end _ _ _ (pointers_turn _ _ _ c.loop-i.invariant (omega arith) c.of_child-child.ensures c.requires c.put_pointer.ensures) (omega arith)
