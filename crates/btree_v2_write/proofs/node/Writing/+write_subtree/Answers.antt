-- The cycle of `write_subtree`: the depth falls. The loop over the children from child 1 on: what is left to store, stored at the node reached,
-- gives all of it.
use Prim.Native.Nat.{ℕ, ◌+◌, ◌<◌}
use mathlib.Core.Path.{◌≡◌}
use native.Mathlib.Omega.{arith}
use borrow.Author.Rules.{rules}
use Rattle.btree_v2_write.proofs.Subtrees.{leaf_room, leaf_fits, whole_node, leaf_done, right_further, first_asked, now_distributed, first_next_fits, first_after_fits}
use Rattle.btree_v2_write.proofs.Subtrees.{KidsLeft, loop_start, kid_ready, kid_next_fits, kid_after_fits, loop_turn, next_fits, next_least, root_fits, root_room, root_done}
use Rattle.btree_v2_write.proofs.node.Writing.+write_subtree.Goals as goal
use Rattle.btree_v2_write.proofs.node.Writing.+write_subtree.Goals.{Left-loop-i, else-loop-i-test, then-loop-i-test+else-i-i-end}

-- write_subtree

pub write_leaf-requires : goal.write_leaf-requires
write_leaf-requires t c = search (leaf_room, leaf_fits, rules)

pub returns-then-depth-eq0 : goal.returns-then-depth-eq0
returns-then-depth-eq0 t c = search (leaf_done, whole_node)

pub write_subtree-large-requires : goal.write_subtree-large-requires
write_subtree-large-requires t c =
    let first = first_asked c.requires.table c.requires.ready c.if-depth-eq0.false c.distribute-distributed.ensures _ c.share.ensures in
    (omega arith, (c.requires.sized, (right_further c.requires.table (omega arith), first)))

pub after-next-requires : goal.after-next-requires
after-next-requires t c =
    let distributed = now_distributed c.requires.table c.requires.ready c.if-depth-eq0.false c.distribute-distributed.ensures in
    (first_next_fits distributed c.share.ensures c.write_subtree-large.ensures, first_after_fits distributed c.share.ensures c.write_subtree-large.ensures)

pub loop-i-init : goal.loop-i-init
loop-i-init t c =
    let distributed = now_distributed c.requires.table c.requires.ready c.if-depth-eq0.false c.distribute-distributed.ensures in
    rw c.after-next.ensures (loop_start distributed c.share.ensures c.write_subtree-large.ensures _ c.write_subtree-large.auto.image)

pub write_subtree-small-requires : goal.write_subtree-small-requires
write_subtree-small-requires t c =
    let kid = kid_ready c.loop-i.invariant c.loop-i-test.true c.share-in-loop-i.ensures in
    (omega arith, (c.requires.sized, (right_further c.requires.table (omega arith), kid)))

pub after-next-requires-in-loop-i : goal.after-next-requires-in-loop-i
after-next-requires-in-loop-i t c =
    let inv = c.loop-i.invariant in
    (kid_next_fits inv c.loop-i-test.true c.share-in-loop-i.ensures c.write_subtree-small.ensures, kid_after_fits inv c.loop-i-test.true c.share-in-loop-i.ensures c.write_subtree-small.ensures)

pub loop-i-preserved : goal.loop-i-preserved
loop-i-preserved t c =
    rw c.after-next-in-loop-i.ensures (loop_turn c.loop-i.invariant c.loop-i-test.true c.share-in-loop-i.ensures c.write_subtree-small.ensures)

-- In both ways in which the loop is left, all children are written.
all_written : (t : ℕ) (c : goal.Left-loop-i t)
    → let x = c.distribute-distributed.result in
    let self = c.args.self.now in
    KidsLeft self.request self.records.now c.write_subtree-large.new.image c.args.depth c.args.n c.args.at.nodes c.args.at.records x.kept x.base x.extra
    c.write_subtree-large.result c.loop-i-test.image c.loop-i-test.small c.loop-i-test.next.nodes c.loop-i-test.next.records (x.kept + 1)
all_written t c =
    elim c.loop-i-test.branch [
      | else-loop-i-test w ↦
          let last : c.distribute-distributed.result.kept + 1 ≡ c.loop-i.i = omega (arith, c.loop-i.invariant.within) in
          rw (w.image-is, w.small-is, w.next-is, last) c.loop-i.invariant
      | then-loop-i-test+else-i-i-end w ↦
          let last : c.distribute-distributed.result.kept + 1 ≡ c.loop-i.i + 1 = omega arith in
          rw (w.image-is, w.small-is, w.next-is, w.after-next-in-loop-i.ensures, last)
          (loop_turn c.loop-i.invariant w.loop-i-test.true w.share-in-loop-i.ensures w.write_subtree-small.ensures)
    ]

-- The children written are more than the node keeps records.
past : (k : ℕ) → k < k + 1
past k = omega arith

pub write_internal-requires : goal.write_internal-requires
write_internal-requires t c =
    let inv = all_written t (goal.at.write_internal-requires t c).Left-loop-i in
    record { numbers = root_fits inv (past _) c.requires.table c.requires.sized; room = root_room inv (past _) }

pub overflow_add-result : goal.overflow_add-result
overflow_add-result t c = omega (arith, next_fits (all_written t (goal.at.overflow_add-result t c).Left-loop-i) (past _))

pub overflow_sub-result : goal.overflow_sub-result
overflow_sub-result t c =
    let inv = all_written t (goal.at.overflow_sub-result t c).Left-loop-i in
    omega (arith, next_least inv (past _))

pub returns : goal.returns
returns t c =
    let inv = all_written t (goal.at.returns t c).Left-loop-i in
    root_done inv (past _) c.requires.table c.share.ensures
    c.write_subtree-large.auto.image c.write_subtree-large.ensures whole_node c.write_internal.ensures
