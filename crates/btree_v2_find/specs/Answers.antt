-- What finding's answer says, in the terms of its definition.
use Rattle.std.specs.Prelude.{ℕ, List, [], ◌∷◌, ◌++◌, Option, Some, None, Result, Ok, Err}
use Rattle.refusal.specs.Answer.{cells, answer_of}
use Rattle.refusal.specs.declared.Refusal.{Refusal}
use Rattle.btree_v2_find.specs.Find.{place_cells}
use Rattle.btree_v2_find.specs.declared.Found.{Found}

-- A place in a list: none or one.
abbrev pub place_of : Option ℕ → List ℕ
place_of None = []
place_of (Some p) = p ∷ []

-- That of a call: none where it is refused.
abbrev pub place_in : Result (Option ℕ) Refusal → List ℕ
place_in (Ok place) = place_of place
place_in (Err cause) = []

-- Finding's answer as numbers: number and two values, the nodes read, found or not and the place.
abbrev pub found_cells : Found → List ℕ
found_cells r = cells 3 (answer_of (λ _. []) r.place) ++ (r.nodes ∷ place_cells (place_in r.place))

-- The answer of these nodes and this place.
abbrev pub found_of : ℕ → Result (Option ℕ) Refusal → Found
found_of nodes place = record { nodes = nodes; place = place }
