-- The code's types and fields as those of the table, and the two calls for a record with given fields.
use Rattle.std.specs.Prelude.{ℕ, ◌≡◌, true, false, List, [], ◌∷◌, Result, MatchResult, map, leb, eqb, length, set, take, drop}
use Rattle.numbers.specs.Numbers.{unle}
use Rattle.numbers.specs.Places.{over}
use Rattle.refusal.specs.Answer.{Answer, accepted, refused, or_else, if_accepted}
use Rattle.refusal.specs.declared.Refusal.{Refusal}
use Rattle.refusal.specs.declared.Refusal.TheVariants.{UnknownRecordType}
use Rattle.btree_v2_record.specs.declared.layout.Meaning.{Meaning}
use Rattle.btree_v2_record.specs.declared.layout.Meaning.TheVariants.{NameHash, HeapId, MessageFlags, CreationOrder}
use Rattle.btree_v2_record.specs.declared.layout.Field.{Field}
use Rattle.btree_v2_record.specs.declared.tree_type.TreeType.{TreeType}
use Rattle.btree_v2_record.specs.declared.tree_type.TreeType.TheVariants.{GroupName, GroupCreationOrder, AttributeName, AttributeCreationOrder}
use Rattle.btree_v2_record.specs.Records.{name_hash, heap_id, message_flags, creation_order, RecordField, field, field_table, is_in, record_length, record_bytes, values_fit}

-- The place of a meaning's value.
abbrev pub place_of : Meaning → ℕ
place_of NameHash = name_hash
place_of HeapId = heap_id
place_of MessageFlags = message_flags
place_of CreationOrder = creation_order

-- The code's fields as the table's.
abbrev pub fields_of : List Field → List RecordField
fields_of = map (λ (f : Field). field (place_of f.meaning) f.width)

-- The number of a type.
abbrev pub number_of : TreeType → ℕ
number_of GroupName = 5
number_of GroupCreationOrder = 6
number_of AttributeName = 8
number_of AttributeCreationOrder = 9

-- The type with this number, or 19 where the table has none.
abbrev pub Known : ℕ → Result TreeType Refusal → Type 0
Known t r = MatchResult r (λ k. (number_of k ≡ t) × (is_in field_table t ≡ true)) (λ e. (e ≡ UnknownRecordType) × (is_in field_table t ≡ false))

-- Values with the number of each field put at the place of its meaning, from the first field on.
unfoldable pub filled : List RecordField → List ℕ → List ℕ → List ℕ
filled [] bytes values = values
filled (f ∷ fs) bytes values = filled fs (drop f.width bytes) (set values f.meaning (unle (take f.width bytes)))

-- A record with these fields read, and written: as `record_read`, `record_written` and `record_output` say it of those of a type.
unfoldable pub fields_read : List RecordField → List ℕ → Answer
fields_read fs bytes = or_else (eqb (length bytes) (record_length fs)) (refused 20 []) (accepted (filled fs bytes (0 ∷ 0 ∷ 0 ∷ 0 ∷ [])))

unfoldable pub fields_written : List RecordField → List ℕ → List ℕ → Answer
fields_written fs values out =
    or_else (values_fit fs values) (refused 20 [])
    (or_else (leb (record_length fs) (length out)) (refused 15 (length out ∷ []))
    (accepted (record_length fs ∷ [])))

unfoldable pub fields_output : List RecordField → List ℕ → List ℕ → List ℕ
fields_output fs values out = if_accepted (fields_written fs values out) (over (record_bytes fs values) out) out
