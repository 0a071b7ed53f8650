-- The values that a record read answers, in document 02's terms.
use Rattle.std.specs.Prelude.{ℕ, List, [], ◌∷◌, Result}
use Rattle.refusal.specs.Answer.{Answer, answer_of}
use Rattle.refusal.specs.declared.Refusal.{Refusal}
use Rattle.btree_v2_record.specs.declared.RecordValues.{RecordValues}

-- The values, each at the place of its meaning.
abbrev pub values_of : RecordValues → List ℕ
values_of v = v.name_hash ∷ v.heap_id ∷ v.message_flags ∷ v.creation_order ∷ []

abbrev pub values_answer_of : Result RecordValues Refusal → Answer
values_answer_of = answer_of values_of
