-- Document 02, "Four", as a type: reading and writing are inverse; and what its proof asks of the fields of a type. Theorems cite these.
use Rattle.std.specs.Prelude.{ℕ, ◌^◌, ◌≤◌, ◌<◌, ◌≡◌, Bool, true, false, not, ◌&&◌, ◌||◌, List, [], ◌∷◌, ltb, eqb, length, get_or, take}
use Rattle.numbers.specs.Numbers.{pick}
use Rattle.numbers.specs.Places.{over}
use Rattle.refusal.specs.Answer.{accepted}
use Rattle.btree_v2_record.specs.Records.{RecordField, name_hash, heap_id, message_flags, creation_order, field_table, fields_in, record_length, values_in, record_read, record_written, record_output}

-- The width of the field with a meaning; 0 where there is none.
unfoldable pub width_in : List RecordField → ℕ → ℕ
width_in [] m = 0
width_in (f ∷ fs) m = let later = width_in fs m in pick (eqb m f.meaning) f.width later

-- Of one type: every record of its length is read, and every four values that fit are written where there is room; what was written is read
-- back as it was; and what was read, written again, gives the same bytes.
pub record Inverse (t : ℕ) : Type 0 where
  pub reads : (bytes : List ℕ) → length bytes ≡ record_length (fields_in field_table t) → record_read t bytes ≡ accepted (values_in (fields_in field_table t) bytes)
  pub writes : (values out : List ℕ) → ((m : ℕ) → m < 4 → get_or values m 0 < 256 ^ width_in (fields_in field_table t) m)
      → record_length (fields_in field_table t) ≤ length out → record_written t values out ≡ accepted (record_length (fields_in field_table t) ∷ [])
  pub read_back : (values out : List ℕ) (n : ℕ) → length values ≡ 4 → record_written t values out ≡ accepted (n ∷ [])
      → record_read t (take n (record_output t values out)) ≡ accepted values
  pub written_back : (bytes values out : List ℕ) → ((i : ℕ) → get_or bytes i 0 < 256) → record_read t bytes ≡ accepted values → length bytes ≤ length out
      → (record_written t values out ≡ accepted (length bytes ∷ [])) × (record_output t values out ≡ over bytes out)

-- Whether some field has this meaning.
unfoldable pub named : List RecordField → ℕ → Bool
named [] m = false
named (f ∷ fs) m = eqb m f.meaning || named fs m

-- Whether no two fields have the same meaning.
unfoldable pub once : List RecordField → Bool
once [] = true
once (f ∷ fs) = not (named fs f.meaning) && once fs

-- Whether the fields have no meaning but the four.
unfoldable pub among_four : List RecordField → Bool
among_four [] = true
among_four (f ∷ fs) = ltb f.meaning 4 && among_four fs

-- Whether each of the four meanings, and no other, stands just once.
unfoldable pub each_once : List RecordField → Bool
each_once fs =
    (once fs && among_four fs) && ((named fs name_hash && named fs heap_id) && (named fs message_flags && named fs creation_order))
