-- What a step of the walk makes of the walk's state.
use Rattle.std.specs.Prelude.{Result, ⊤, ◌≡◌, List, ℕ}
use Rattle.refusal.specs.declared.Refusal.{Refusal}
use Rattle.btree_v2_collect.specs.declared.collect.Walk.{Walk}
use Rattle.btree_v2_collect.specs.Walk.{Counts, Run}
use Rattle.btree_v2_collect.specs.Collecting.{counts_of, Walked}

-- From one state on the step ends as the other and the answer v say; the tree stays, and the output is the same one.
pub record Walks (before : Walk) (step : Counts → List ℕ → Run) (v : Result ⊤ Refusal) (after : Walk) : Type 0 where
  pub walked : Walked (step (counts_of before.tally) before.output.now) v after.tally after.output.now
  pub tree : after.tree ≡ before.tree
  pub output : after.output.ghost_name ≡ before.output.ghost_name
