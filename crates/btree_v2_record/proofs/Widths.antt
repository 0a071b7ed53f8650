-- The widths of fields: what a field that a type lacks reads as, and which values fit.
use mathlib.Core.Path.{◌≡◌, refl, sym, ap, ◌∙◌}
use mathlib.Core.Bool.{Bool, true, false, not, ◌||◌, true≢false}
use mathlib.Core.Logic.{◌↔◌}
use mathlib.Core.List.{List, [], ◌∷◌}
use Prim.Native.Nat.{ℕ, ◌^◌, ◌<◌}
use native.Mathlib.Omega.{arith}
use lib.Dec.{ltb, eqb}
use lib.ListN.{get_or, take, drop}
use borrow.Author.Tests.{ltb-true, lt-ltb, eqb-true, eq-eqb, not-true}
use Rattle.numbers.specs.Numbers.{pick, unle}
use Rattle.btree_v2_record.specs.Records.{RecordField, field_table, is_in, fields_in, value_in, values_fit}
use Rattle.btree_v2_record.specs.Inverse.{named, once, among_four, width_in}
use Rattle.std.proofs.lemmas.Bool.{and_parts}
use Rattle.btree_v2_record.proofs.Values.{table_each_once}

-- A field that the type lacks reads as 0.
pub lacking_reads_0 : (fs : List RecordField) (b : List ℕ) (m : ℕ) → width_in fs m ≡ 0 → value_in fs b m ≡ 0
unfolding width_in value_in unle
lacking_reads_0 [] b m e = refl
lacking_reads_0 (f ∷ fs) b m e = by (eqb m f.meaning) refl e (lacking_reads_0 fs (drop f.width b) m)
  where
    by : (t : Bool) → eqb m f.meaning ≡ t → pick (eqb m f.meaning) f.width (width_in fs m) ≡ 0 → (width_in fs m ≡ 0 → value_in fs (drop f.width b) m ≡ 0)
        → pick (eqb m f.meaning) (unle (take f.width b)) (value_in fs (drop f.width b) m) ≡ 0
    by true is e later = let none : f.width ≡ 0 = rw is at e in rw (is, none)
    by false is e later = rw is (later (rw is at e))

-- Where all values fit, each is below 256 to the power of its field's width, and the other way round.
module _ (f : RecordField) (fs : List RecordField) (v : List ℕ) (m : ℕ) where
  fit_here : (t : Bool) → eqb m f.meaning ≡ t → get_or v f.meaning 0 < 256 ^ f.width → (named fs m ≡ true → get_or v m 0 < 256 ^ width_in fs m)
      → (eqb m f.meaning || named fs m) ≡ true → get_or v m 0 < 256 ^ pick (eqb m f.meaning) f.width (width_in fs m)
  fit_here true is less later n = let same : m ≡ f.meaning = eqb-true _ _ is in rw (is, ap (λ (k : ℕ). get_or v k 0) same) less
  fit_here false is less later n = rw is (later (rw is at n))

  fit_later : (t : Bool) → eqb m f.meaning ≡ t → named fs f.meaning ≡ false → named fs m ≡ true
      → ((eqb m f.meaning || named fs m) ≡ true → get_or v m 0 < 256 ^ pick (eqb m f.meaning) f.width (width_in fs m))
      → get_or v m 0 < 256 ^ width_in fs m
  fit_later true is none n all = absurd (true≢false (sym n ∙ ap (named fs) (eqb-true _ _ is) ∙ none))
  fit_later false is none n all = rw is at (all (rw (is, n)))

pub fit_each : (fs : List RecordField) (v : List ℕ) → values_fit fs v ≡ true → (m : ℕ) → named fs m ≡ true → get_or v m 0 < 256 ^ width_in fs m
unfolding values_fit named width_in
fit_each [] v fit m n = absurd (true≢false (sym n))
fit_each (f ∷ fs) v fit m n =
    let both = and_parts (ltb (get_or v f.meaning 0) (256 ^ f.width)) (values_fit fs v) fit in
    fit_here f fs v m (eqb m f.meaning) refl (ltb-true _ _ both.0) (fit_each fs v both.1 m) n

pub each_fit : (fs : List RecordField) (v : List ℕ) → once fs ≡ true → ((m : ℕ) → named fs m ≡ true → get_or v m 0 < 256 ^ width_in fs m) → values_fit fs v ≡ true
unfolding values_fit named width_in once
each_fit [] v o all = refl
each_fit (f ∷ fs) v o all =
    let twice = and_parts (not (named fs f.meaning)) (once fs) o in
    let mine = eq-eqb f.meaning f.meaning refl in
    let less : get_or v f.meaning 0 < 256 ^ f.width = rw mine at (all f.meaning (rw mine)) in
    rw (lt-ltb _ _ less) (each_fit fs v twice.1 (λ m n. fit_later f fs v m (eqb m f.meaning) refl (not-true _ twice.0) n (all m)))

-- A meaning that a field has is one of the four.
pub named_small : (fs : List RecordField) (m : ℕ) → among_four fs ≡ true → named fs m ≡ true → m < 4
unfolding among_four named
named_small [] m s n = absurd (true≢false (sym n))
named_small (f ∷ fs) m s n =
    let both = and_parts (ltb f.meaning 4) (among_four fs) s in
    by (eqb m f.meaning) refl (ltb-true _ _ both.0) (named_small fs m both.1) n
  where
    by : (t : Bool) → eqb m f.meaning ≡ t → f.meaning < 4 → (named fs m ≡ true → m < 4) → (eqb m f.meaning || named fs m) ≡ true → m < 4
    by true e small later n = let is : m ≡ f.meaning = eqb-true _ _ e in omega arith
    by false e small later n = later (rw e at n)

-- The values fit the fields of a type exactly where each of the four is below 256 to the power of its field's width.
pub fits_exactly : (t : ℕ) (v : List ℕ) → is_in field_table t ≡ true
    → (values_fit (fields_in field_table t) v ≡ true) ↔ ((m : ℕ) → m < 4 → get_or v m 0 < 256 ^ width_in (fields_in field_table t) m)
fits_exactly t v known =
    let each = table_each_once t known in (
      λ fit m h. fit_each (fields_in field_table t) v fit m (each.all m h),
      λ all. each_fit (fields_in field_table t) v each.none_twice (λ m n. all m (named_small (fields_in field_table t) m each.four n)),
    )
