-- The values of a record: put at their places field after field, read back from what was written, and written back from what was read. Each
-- law is over any fields; of the table's own fields one test shows what the laws ask.
use mathlib.Core.Path.{◌≡◌, refl, sym, ap, ◌∙◌}
use mathlib.Core.Bool.{Bool, true, false, not, ◌&&◌, ◌||◌, true≢false}
use mathlib.Core.Logic.{⊎_elim}
use mathlib.Core.List.{List, [], ◌∷◌, ◌++◌, append_assoc}
use Prim.Native.Nat.{ℕ, zero, suc, ◌+◌, ◌^◌, ◌≤◌, ◌<◌}
use native.Mathlib.Omega.{arith}
use lib.Dec.{ltb, eqb, lit<}
use Rattle.std.proofs.lemmas.List.{ext_get_or}
use lib.ListN.{length, get_or, set, take, drop, replicate, length-set, length-drop, length-append, length-take, take-append-drop, get_or-eq_default}
use lib.Seq.{get_or-set_same, get_or-set_other, get_or-drop, get_or-take, take_at, drop_at, length-take-le}
use borrow.Author.Tests.{ltb-true, lt-ltb, eqb-true, eqb-false, eq-eqb, not-true}
use Rattle.numbers.specs.Numbers.{pick, le, unle}
use Rattle.numbers.proofs.Numbers.{le_length, le_unle, unle_le, unle_lt}
use Rattle.btree_v2_record.specs.Records.{RecordField, field_table, is_in, fields_in, record_length, record_bytes, value_in, values_in, values_fit}
use Rattle.btree_v2_record.specs.Inverse.{named, once, among_four, each_once}
use Rattle.btree_v2_record.specs.Steps.{filled}
use Rattle.std.proofs.lemmas.Bool.{and_parts, cases_lt}
use Rattle.btree_v2_record.proofs.Table.{fields_pass}

-- What fields have that name each of the four meanings once.
pub record NamesEach (fs : List RecordField) : Type 0 where
  pub none_twice : once fs ≡ true
  pub four : among_four fs ≡ true
  pub all : (m : ℕ) → m < 4 → named fs m ≡ true

pub each_once_lem : (fs : List RecordField) → each_once fs ≡ true → NamesEach fs
unfolding each_once
each_once_lem fs e =
    let halves = and_parts (once fs && among_four fs) _ e in
    let first = and_parts (once fs) (among_four fs) halves.0 in
    let second = and_parts (named fs 0 && named fs 1) (named fs 2 && named fs 3) halves.1 in
    let low = and_parts (named fs 0) (named fs 1) second.0 in
    let high = and_parts (named fs 2) (named fs 3) second.1 in
    record { none_twice = first.0; four = first.1; all = by low.0 low.1 high.0 high.1 }
  where
    by : named fs 0 ≡ true → named fs 1 ≡ true → named fs 2 ≡ true → named fs 3 ≡ true → (m : ℕ) → m < 4 → named fs m ≡ true
    by a b c d zero h = a
    by a b c d (suc zero) h = b
    by a b c d (suc (suc zero)) h = c
    by a b c d (suc (suc (suc zero))) h = d
    by a b c d (suc (suc (suc (suc m)))) h = absurd (omega arith)

-- The test over the whole table, and what it shows of each type that is in it.
pub table_each_once : (t : ℕ) → is_in field_table t ≡ true → NamesEach (fields_in field_table t)
unfolding each_once once among_four named
table_each_once t known = each_once_lem (fields_in field_table t) (fields_pass each_once field_table t refl known)

-- The values that are put at their places are those of the fields; the others stay.
module _ (f : RecordField) (fs : List RecordField) (b v : List ℕ) (m : ℕ) where
  abbrev number : ℕ
  number = unle (take f.width b)

  abbrev next : List ℕ
  next = set v f.meaning number

  filled_more : (t : Bool) → eqb m f.meaning ≡ t → named fs f.meaning ≡ false → f.meaning < length v → (later r : ℕ)
      → r ≡ pick (named fs m) later (get_or next m 0)
      → r ≡ pick (eqb m f.meaning || named fs m) (pick (eqb m f.meaning) number later) (get_or v m 0)
  filled_more true e none small later r rest =
      let is : m ≡ f.meaning = eqb-true _ _ e in
      let none_more : named fs m ≡ false = ap (named fs) is ∙ none in
      rw (e, rest, none_more, is) (get_or-set_same v f.meaning number 0 small)
  filled_more false e none small later r rest = rw (e, rest, get_or-set_other v f.meaning m number 0 (eqb-false _ _ e))

pub filled_at : (fs : List RecordField) (b v : List ℕ) (m : ℕ) → once fs ≡ true → among_four fs ≡ true → length v ≡ 4
    → get_or (filled fs b v) m 0 ≡ pick (named fs m) (value_in fs b m) (get_or v m 0)
unfolding filled once among_four named value_in
filled_at [] b v m o s l = refl
filled_at (f ∷ fs) b v m o s l =
    let twice = and_parts (not (named fs f.meaning)) (once fs) o in
    let small = and_parts (ltb f.meaning 4) (among_four fs) s in
    let less : f.meaning < 4 = ltb-true _ _ small.0 in
    filled_more f fs b v m (eqb m f.meaning) refl (not-true _ twice.0) (omega arith) _ _
    (filled_at fs (drop f.width b) (next f fs b v m) m twice.1 small.1 (rw length-set l))

-- From four zeros: the four values.
filled_long : (fs : List RecordField) (b v : List ℕ) → length (filled fs b v) ≡ length v
unfolding filled
filled_long [] b v = refl
filled_long (f ∷ fs) b v = rw (filled_long fs, length-set)

-- The value at the place of each meaning.
pub value_at : (fs : List RecordField) (bytes : List ℕ) (m : ℕ) → m < 4 → get_or (values_in fs bytes) m 0 ≡ value_in fs bytes m
unfolding values_in
value_at fs bytes zero h = refl
value_at fs bytes (suc zero) h = refl
value_at fs bytes (suc (suc zero)) h = refl
value_at fs bytes (suc (suc (suc zero))) h = refl
value_at fs bytes (suc (suc (suc (suc m)))) h = absurd (omega arith)

pub filled_values : (fs : List RecordField) (b : List ℕ) → NamesEach fs → filled fs b (replicate 4 0) ≡ values_in fs b
unfolding values_in
filled_values fs b each =
    ext_get_or 0 _ _ (filled_long fs b (replicate 4 0))
    (λ m h.
    let small : m < 4 = rw (filled_long fs b (replicate 4 0)) at h in
    rw (filled_at fs b (replicate 4 0) m each.none_twice each.four refl, each.all m small, value_at fs b m small))

-- What was written is read back: of every meaning that a field has its value, whatever follows the record.
module _ (f : RecordField) (v more : List ℕ) where
  abbrev mine : List ℕ
  mine = le f.width (get_or v f.meaning 0)

  front : take f.width (mine ++ more) ≡ mine
  front = take_at mine more f.width (le_length f.width (get_or v f.meaning 0))

  behind : drop f.width (mine ++ more) ≡ more
  behind = drop_at mine more f.width (le_length f.width (get_or v f.meaning 0))

  read_more : (fs : List RecordField) (m : ℕ) (t : Bool) → eqb m f.meaning ≡ t → get_or v f.meaning 0 < 256 ^ f.width
      → (named fs m ≡ true → value_in fs more m ≡ get_or v m 0) → (eqb m f.meaning || named fs m) ≡ true
      → pick (eqb m f.meaning) (unle (take f.width (mine ++ more))) (value_in fs (drop f.width (mine ++ more)) m) ≡ get_or v m 0
  read_more fs m true e less later n =
      rw (e, front, unle_le f.width (get_or v f.meaning 0) less) (ap (λ (k : ℕ). get_or v k 0) (sym (eqb-true _ _ e)))
  read_more fs m false e less later n = rw (e, behind) (later (rw e at n))

pub read_written : (fs : List RecordField) (v rest : List ℕ) (m : ℕ) → values_fit fs v ≡ true → named fs m ≡ true
    → value_in fs (record_bytes fs v ++ rest) m ≡ get_or v m 0
unfolding record_bytes value_in values_fit named
read_written [] v rest m fit n = absurd (true≢false (sym n))
read_written (f ∷ fs) v rest m fit n =
    let g = and_parts (ltb (get_or v f.meaning 0) (256 ^ f.width)) (values_fit fs v) fit in
    rw append_assoc (read_more f v (record_bytes fs v ++ rest) fs m (eqb m f.meaning) refl (ltb-true _ _ g.0) (read_written fs v rest m g.1) n)

-- What was read is written back: the values of a record of these fields fit, and give its bytes.
module _ (f : RecordField) (fs : List RecordField) (b v : List ℕ) (bytes : (i : ℕ) → get_or b i 0 < 256) where
  abbrev own : List ℕ
  own = take f.width b

  abbrev others : List ℕ
  others = drop f.width b

  own_bytes : (i : ℕ) → get_or own i 0 < 256
  own_bytes i =
      ⊎_elim
      (λ (h : i < f.width). rw (get_or-take f.width b i 0 h) (bytes i))
      (λ (h : f.width ≤ i). rw (get_or-eq_default own 0 {n = i} (simp length-take (omega arith))) (lit< tt))
      (cases_lt i f.width)

  later_is : (m : ℕ) (t : Bool) → eqb m f.meaning ≡ t → named fs m ≡ true → named fs f.meaning ≡ false
      → ((eqb m f.meaning || named fs m) ≡ true → get_or v m 0 ≡ pick (eqb m f.meaning) (unle own) (value_in fs others m))
      → get_or v m 0 ≡ value_in fs others m
  later_is m true e h none all = absurd (true≢false (sym h ∙ ap (named fs) (eqb-true _ _ e) ∙ none))
  later_is m false e h none all = rw e at (all (rw (e, h)))

  written_more : f.width ≤ length b → get_or v f.meaning 0 ≡ unle own → (values_fit fs v ≡ true) × (record_bytes fs v ≡ others)
      → ((ltb (get_or v f.meaning 0) (256 ^ f.width) && values_fit fs v) ≡ true) × (le f.width (get_or v f.meaning 0) ++ record_bytes fs v ≡ b)
  written_more there x rest =
      let wide : length own ≡ f.width = length-take-le f.width b there in
      let below : unle own < 256 ^ f.width = rw wide at (unle_lt own own_bytes) in
      let same : le f.width (unle own) ≡ own = rw wide at (le_unle own own_bytes) in
      (rw (x, lt-ltb _ _ below) rest.0, rw (x, same, rest.1) (take-append-drop f.width b))

pub written_read : (fs : List RecordField) (b v : List ℕ) → once fs ≡ true → length b ≡ record_length fs → ((i : ℕ) → get_or b i 0 < 256)
    → ((m : ℕ) → named fs m ≡ true → get_or v m 0 ≡ value_in fs b m) → (values_fit fs v ≡ true) × (record_bytes fs v ≡ b)
unfolding record_bytes value_in values_fit record_length once named
written_read [] [] v o e bytes is = (refl, refl)
written_read [] (x ∷ b) v o e bytes is = absurd (omega arith)
written_read (f ∷ fs) b v o e bytes is =
    let twice = and_parts (not (named fs f.meaning)) (once fs) o in
    let n : length (drop f.width b) ≡ record_length fs = rw length-drop (omega arith) in
    let mine = eq-eqb f.meaning f.meaning refl in
    let x : get_or v f.meaning 0 ≡ unle (take f.width b) = rw mine at (is f.meaning (rw mine)) in
    written_more f fs b v bytes (omega arith) x
    (written_read fs (drop f.width b) v twice.1 n (λ i. rw get_or-drop (bytes (f.width + i)))
    (λ m h. later_is f fs b v bytes m (eqb m f.meaning) refl h (not-true _ twice.0) (is m)))

-- A record is as long as its fields are wide.
pub length_bytes : (fs : List RecordField) (v : List ℕ) → length (record_bytes fs v) ≡ record_length fs
unfolding record_bytes record_length
length_bytes [] v = refl
length_bytes (f ∷ fs) v = simp (length-append, le_length, length_bytes fs v)
