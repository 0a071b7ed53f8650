-- What collecting's answer says, in the terms of the format's definitions.
use Rattle.std.specs.Prelude.{ℕ, ◌≡◌, List, [], ◌∷◌, ◌++◌}
use Rattle.refusal.specs.Answer.{cells, verdict_of}
use Rattle.btree_v2_collect.specs.Walk.{Run}
use Rattle.btree_v2_collect.specs.Collect.{run_cells, run_output}
use Rattle.btree_v2_collect.specs.declared.Collected.{Collected}

-- Collecting's answer as numbers: number and two values, and the four counts.
abbrev pub collected_cells : Collected → List ℕ
collected_cells r =
    cells 3 (verdict_of r.verdict)
    ++ (r.tally.records ∷ r.tally.leaves ∷ r.tally.internals ∷ r.tally.internal_records ∷ [])

-- A walk that ends as x, told by an answer and an output.
abbrev pub Ends : Run → Collected → List ℕ → Type 0
Ends x r o = (collected_cells r ≡ run_cells x) × (o ≡ run_output x)
