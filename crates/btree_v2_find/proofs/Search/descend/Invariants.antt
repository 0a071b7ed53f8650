-- `descend`: a node of each level in turn.
use Rattle.btree_v2_find.proofs.Descending.{Going}
use Rattle.btree_v2_find.proofs.Search.descend.Given as goal

abbrev pub invariant-loop-level : goal.invariant-loop-level
invariant-loop-level l = Going l.self.tree.file.now l.self.tree.geometry l.self.key l.self.sought l.self.tree.depth l.initial.node l.node l.kept l.level l.nodes
