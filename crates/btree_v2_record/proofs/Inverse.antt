-- Reading and writing are inverse for every type of the table; what a write leaves; fields that a type lacks; types that are not in the table.
use mathlib.Core.Path.{◌≡◌, refl, sym, ap, ◌∙◌}
use mathlib.Core.Bool.{true, false}
use mathlib.Core.List.{List, [], ◌∷◌, append-nil}
use Prim.Native.Nat.{ℕ, ◌^◌, ◌≤◌, ◌<◌}
use native.Mathlib.Omega.{arith}
use lib.ListN.{length, get_or, take, drop}
use lib.Seq.{take_at, drop_at}
use borrow.Author.Tests.{leb-true, le-leb, eqb-true, eq-eqb}
use Rattle.numbers.specs.Places.{over}
use Rattle.refusal.specs.Answer.{accepted, refused}
use Rattle.refusal.proofs.Answers.{test_passed}
use Rattle.btree_v2_record.specs.Records.{RecordField, field_table, is_in, fields_in, record_length, record_bytes, value_in, values_in, values_fit, record_read, record_written, record_output}
use Rattle.btree_v2_record.specs.Inverse.{Inverse, named, width_in}
use Rattle.btree_v2_record.proofs.Values.{NamesEach, table_each_once, value_at, read_written, written_read, length_bytes}
use Rattle.btree_v2_record.proofs.Widths.{lacking_reads_0, named_small, fits_exactly}

module _ (t : ℕ) where
  abbrev fields : List RecordField
  fields = fields_in field_table t

  -- What an accepted read has, and an accepted write.
  record ReadOf (bytes values : List ℕ) : Type 0 where
    known : is_in field_table t ≡ true
    long : length bytes ≡ record_length fields
    are : values_in fields bytes ≡ values

  read_of : (bytes values : List ℕ) → record_read t bytes ≡ accepted values → ReadOf bytes values
  unfolding record_read
  read_of bytes values e =
      let first = test_passed 19 _ e in
      let second = test_passed 20 _ first.1 in
      record { known = first.0; long = eqb-true _ _ second.0; are = cc second.1 }

  record WrittenOf (values out : List ℕ) (n : ℕ) : Type 0 where
    known : is_in field_table t ≡ true
    fit : values_fit fields values ≡ true
    room : record_length fields ≤ length out
    long : record_length fields ≡ n

  written_of : (values out : List ℕ) (n : ℕ) → record_written t values out ≡ accepted (n ∷ []) → WrittenOf values out n
  unfolding record_written
  written_of values out n e =
      let first = test_passed 19 _ e in
      let second = test_passed 20 _ first.1 in
      let third = test_passed 15 _ second.1 in
      record { known = first.0; fit = second.0; room = leb-true _ _ third.0; long = cc third.1 }

  -- What an accepted write leaves: the record, and behind it what was there.
  pub written_output : (values out : List ℕ) (n : ℕ) → record_written t values out ≡ accepted (n ∷ []) → record_output t values out ≡ over (record_bytes fields values) out
  unfolding record_output
  written_output values out n e = rw e

  pub written_front : (values out : List ℕ) (n : ℕ) → record_written t values out ≡ accepted (n ∷ []) → take n (record_output t values out) ≡ record_bytes fields values
  unfolding over
  written_front values out n e =
      let bytes = record_bytes fields values in
      rw (written_output values out n e) (take_at bytes (drop (length bytes) out) n (length_bytes fields values ∙ (written_of values out n e).long))

  pub written_rest : (values out : List ℕ) (n : ℕ) → record_written t values out ≡ accepted (n ∷ []) → drop n (record_output t values out) ≡ drop n out
  unfolding over
  written_rest values out n e =
      let bytes = record_bytes fields values in
      let long = length_bytes fields values ∙ (written_of values out n e).long in
      rw (written_output values out n e) (drop_at bytes (drop (length bytes) out) n long ∙ ap (λ (k : ℕ). drop k out) long)

  -- A refused write changes nothing.
  pub refused_left : (values out : List ℕ) (n : ℕ) (figures : List ℕ) → record_written t values out ≡ refused n figures → record_output t values out ≡ out
  unfolding record_output
  refused_left values out n figures e = rw e

-- Four values are those at the four places.
four_are : (v : List ℕ) → length v ≡ 4 → get_or v 0 0 ∷ get_or v 1 0 ∷ get_or v 2 0 ∷ get_or v 3 0 ∷ [] ≡ v
four_are [] e = absurd (omega arith)
four_are (_ ∷ []) e = absurd (omega arith)
four_are (_ ∷ _ ∷ []) e = absurd (omega arith)
four_are (_ ∷ _ ∷ _ ∷ []) e = absurd (omega arith)
four_are (_ ∷ _ ∷ _ ∷ _ ∷ []) e = refl
four_are (_ ∷ _ ∷ _ ∷ _ ∷ _ ∷ _) e = absurd (omega arith)

-- The values of what was written.
values_back : (fs : List RecordField) (v : List ℕ) → NamesEach fs → values_fit fs v ≡ true → length v ≡ 4 → values_in fs (record_bytes fs v) ≡ v
unfolding values_in
values_back fs v each fit four = rw (at 0 (omega arith), at 1 (omega arith), at 2 (omega arith), at 3 (omega arith)) (four_are v four)
  where
    at : (m : ℕ) → m < 4 → value_in fs (record_bytes fs v) m ≡ get_or v m 0
    at m h = rw append-nil at (read_written fs v [] m fit (each.all m h))

-- What was written is read back, and what was read is written back.
read_back : (t : ℕ) (values out : List ℕ) (n : ℕ) → length values ≡ 4 → record_written t values out ≡ accepted (n ∷ [])
    → record_read t (take n (record_output t values out)) ≡ accepted values
unfolding record_read
read_back t values out n four e =
    let written = written_of t values out n e in
    let each = table_each_once t written.known in
    rw (written_front t values out n e, written.known, eq-eqb _ _ (length_bytes (fields_in field_table t) values), values_back (fields_in field_table t) values each written.fit four)

values_at : (t : ℕ) (bytes values : List ℕ) → ReadOf t bytes values → NamesEach (fields_in field_table t)
    → (m : ℕ) → named (fields_in field_table t) m ≡ true → get_or values m 0 ≡ value_in (fields_in field_table t) bytes m
values_at t bytes values read each m n =
    rw (← read.are) (value_at (fields_in field_table t) bytes m (named_small (fields_in field_table t) m each.four n))

written_back : (t : ℕ) (bytes values out : List ℕ) → ((i : ℕ) → get_or bytes i 0 < 256) → record_read t bytes ≡ accepted values → length bytes ≤ length out
    → (record_written t values out ≡ accepted (length bytes ∷ [])) × (record_output t values out ≡ over bytes out)
unfolding record_written
written_back t bytes values out small e room =
    let read = read_of t bytes values e in
    let each = table_each_once t read.known in
    let same = written_read (fields_in field_table t) bytes values each.none_twice read.long small (values_at t bytes values read each) in
    let answer : record_written t values out ≡ accepted (length bytes ∷ []) = rw (read.known, same.0, ← read.long, le-leb _ _ room) in
    (answer, written_output t values out (length bytes) answer ∙ ap (λ b. over b out) same.1)

-- Every record of its length is read, and every four values that fit are written where there is room.
reads : (t : ℕ) → is_in field_table t ≡ true → (bytes : List ℕ) → length bytes ≡ record_length (fields_in field_table t)
    → record_read t bytes ≡ accepted (values_in (fields_in field_table t) bytes)
unfolding record_read
reads t known bytes long = rw (known, eq-eqb _ _ long)

writes : (t : ℕ) → is_in field_table t ≡ true → (values out : List ℕ) → ((m : ℕ) → m < 4 → get_or values m 0 < 256 ^ width_in (fields_in field_table t) m)
    → record_length (fields_in field_table t) ≤ length out → record_written t values out ≡ accepted (record_length (fields_in field_table t) ∷ [])
unfolding record_written
writes t known values out all room = rw (known, (fits_exactly t values known).1 all, le-leb _ _ room)

-- Document 02: reading and writing are inverse for all four.
pub inverse : (t : ℕ) → is_in field_table t ≡ true → Inverse t
inverse t known = record { reads = reads t known; writes = writes t known; read_back = read_back t; written_back = written_back t }

-- Every other type is refused by 19, whatever else is wrong.
pub others_refused : (t : ℕ) (bytes values out : List ℕ) → is_in field_table t ≡ false → (record_read t bytes ≡ refused 19 []) × (record_written t values out ≡ refused 19 [])
unfolding record_read record_written
others_refused t bytes values out e = (rw e, rw e)

-- A field that the type lacks reads as 0, and must be 0 in writing.
pub lacking_read : (t : ℕ) (bytes values : List ℕ) (m : ℕ) → record_read t bytes ≡ accepted values → m < 4 → width_in (fields_in field_table t) m ≡ 0 → get_or values m 0 ≡ 0
lacking_read t bytes values m e h none =
    ap (λ (l : List ℕ). get_or l m 0) (sym (read_of t bytes values e).are) ∙ value_at (fields_in field_table t) bytes m h
    ∙ lacking_reads_0 (fields_in field_table t) bytes m none

pub lacking_written : (t : ℕ) (values out : List ℕ) (n m : ℕ) → record_written t values out ≡ accepted (n ∷ []) → m < 4 → width_in (fields_in field_table t) m ≡ 0
    → get_or values m 0 ≡ 0
lacking_written t values out n m e h none =
    let written = written_of t values out n e in
    let less : get_or values m 0 < 256 ^ width_in (fields_in field_table t) m = (fits_exactly t values written.known).0 written.fit m h in
    let below : get_or values m 0 < 1 = rw none at less in
    omega arith
