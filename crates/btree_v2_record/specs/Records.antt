-- Records by their meaning: the fields of four record types, and a record read and written by them. From the HDF5 File Format Specification,
-- "Version 2 B-trees", and document 02, "Four".
use Rattle.std.specs.Prelude.{ℕ, ◌+◌, ◌^◌, Bool, true, false, ◌&&◌, ◌||◌, List, [], ◌∷◌, ◌++◌, leb, ltb, eqb, length, get_or, take, drop}
use Rattle.numbers.specs.Numbers.{pick, le, unle}
use Rattle.numbers.specs.Places.{over}
use Rattle.refusal.specs.Answer.{Answer, accepted, refused, or_else, if_accepted}

-- What a field means: the place of its value among the four values of a record.
abbrev pub name_hash : ℕ
name_hash = 0

abbrev pub heap_id : ℕ
heap_id = 1

abbrev pub message_flags : ℕ
message_flags = 2

abbrev pub creation_order : ℕ
creation_order = 3

-- A field: what it means, and its bytes.
pub record RecordField : Type 0 where
  pub meaning : ℕ
  pub width : ℕ

abbrev pub field : ℕ → ℕ → RecordField
field m w = record { meaning = m; width = w }

-- A record type: its number, and its fields in the record's own order; then the fields that it lacks, which have width 0.
pub record RecordType : Type 0 where
  pub number : ℕ
  pub fields : List RecordField

abbrev pub record_type : ℕ → List RecordField → RecordType
record_type t fs = record { number = t; fields = fs }

-- The table of fields.
abbrev pub field_table : List RecordType
field_table =
    record_type 5 (field name_hash 4 ∷ field heap_id 7 ∷ field message_flags 0 ∷ field creation_order 0 ∷ [])
    ∷ record_type 6 (field creation_order 8 ∷ field heap_id 7 ∷ field name_hash 0 ∷ field message_flags 0 ∷ [])
    ∷ record_type 8 (field heap_id 8 ∷ field message_flags 1 ∷ field creation_order 4 ∷ field name_hash 4 ∷ [])
    ∷ record_type 9 (field heap_id 8 ∷ field message_flags 1 ∷ field creation_order 4 ∷ field name_hash 0 ∷ [])
    ∷ []

-- Whether a type is in a table.
unfoldable pub is_in : List RecordType → ℕ → Bool
is_in [] t = false
is_in (r ∷ rs) t = eqb t r.number || is_in rs t

-- The fields of a type by a table; none where the type is not in it.
unfoldable pub fields_in : List RecordType → ℕ → List RecordField
fields_in [] t = []
fields_in (r ∷ rs) t = let later = fields_in rs t in pick (eqb t r.number) r.fields later

-- The length of a record with these fields.
unfoldable pub record_length : List RecordField → ℕ
record_length [] = 0
record_length (f ∷ fs) = f.width + record_length fs

-- The bytes of a record with these values: field after field, each a number, low byte first.
unfoldable pub record_bytes : List RecordField → List ℕ → List ℕ
record_bytes [] values = []
record_bytes (f ∷ fs) values = le f.width (get_or values f.meaning 0) ++ record_bytes fs values

-- The value of meaning m: the number in its field; 0 where no field has this meaning.
unfoldable pub value_in : List RecordField → List ℕ → ℕ → ℕ
value_in [] bytes m = 0
value_in (f ∷ fs) bytes m =
    let later = value_in fs (drop f.width bytes) m in pick (eqb m f.meaning) (unle (take f.width bytes)) later

-- The four values.
unfoldable pub values_in : List RecordField → List ℕ → List ℕ
values_in fs bytes =
    value_in fs bytes name_hash ∷ value_in fs bytes heap_id ∷ value_in fs bytes message_flags ∷ value_in fs bytes creation_order ∷ []

-- Whether every value is small enough for its field: below 256 to the power of the width, so 0 where the type lacks the field.
unfoldable pub values_fit : List RecordField → List ℕ → Bool
values_fit [] values = true
values_fit (f ∷ fs) values = ltb (get_or values f.meaning 0) (256 ^ f.width) && values_fit fs values

-- Reading a record: its four values.
unfoldable pub record_read : ℕ → List ℕ → Answer
record_read t bytes =
    or_else (is_in field_table t) (refused 19 [])
    (or_else (eqb (length bytes) (record_length (fields_in field_table t))) (refused 20 [])
    (accepted (values_in (fields_in field_table t) bytes)))

-- Writing one to the front of an output: its length; and the output at exit.
unfoldable pub record_written : ℕ → List ℕ → List ℕ → Answer
record_written t values out =
    let size = record_length (fields_in field_table t) in
    or_else (is_in field_table t) (refused 19 [])
    (or_else (values_fit (fields_in field_table t) values) (refused 20 [])
    (or_else (leb size (length out)) (refused 15 (length out ∷ []))
    (accepted (size ∷ []))))

unfoldable pub record_output : ℕ → List ℕ → List ℕ → List ℕ
record_output t values out = if_accepted (record_written t values out) (over (record_bytes (fields_in field_table t) values) out) out
