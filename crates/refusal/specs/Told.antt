-- What a cause and a test's answer are as three numbers.
use Rattle.std.specs.Prelude.{◌≡◌, [], ◌∷◌, Result, ⊤}
use Rattle.refusal.specs.declared.Refusal.{Refusal}
use Rattle.refusal.specs.declared.Code.{Code}
use Rattle.refusal.specs.Answer.{Answer, refusal_of, verdict_of, cells}

-- The number and values are those of the answer.
abbrev pub Told : Answer → Code → Type 0
Told answer code = code.number ∷ code.first ∷ code.second ∷ [] ≡ cells 3 answer

abbrev pub cause_told : Refusal → Code → Type 0
cause_told cause = Told (refusal_of cause)

abbrev pub verdict_told : Result ⊤ Refusal → Code → Type 0
verdict_told verdict = Told (verdict_of verdict)
