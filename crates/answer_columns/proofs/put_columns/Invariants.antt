-- The loop of `put_columns`: the entries of the levels so far stand in their columns.
use Rattle.answer_columns.proofs.Table.{InColumns}
use Rattle.answer_columns.proofs.put_columns.Given as goal

abbrev pub invariant-loop-level : goal.invariant-loop-level
invariant-loop-level l = InColumns l.levels l.level l.columns
