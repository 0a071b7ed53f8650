-- The loops over a type's fields: what the fields that are left add to a length, to the values and to the bytes.
use Rattle.std.proofs.Common.{◌≡◌, ℕ, ◌+◌, ◌*◌, ◌/◌, ◌^◌, ◌<◌, ◌≤◌, min, Bool, true, false, List, [], ◌∷◌, length, get_or, set, take, drop, refl, ◌∙◌, leb, ltb, eqb, le-leb, eq-eqb, arith}
use Rattle.std.specs.List.{list_all, sum_by}
use Rattle.std.proofs.lemmas.List.{at_drop_more, at_drop_all}
use Rattle.std.proofs.lemmas.List.Recursion.{is_sum_by}
use native.Mathlib.Nat.{div-eq_of_lt, div-lt_iff_lt-mul}
use lib.Dec.{lit≤}
use lib.Pow.{pow_pos}
use borrow.Author.Tests.{ltb-true, ltb-false, ne_eqb}
use lib.Seq.{drop-drop}
use Rattle.numbers.specs.Numbers.{pick, le, unle, num}
use Rattle.numbers.specs.Places.{stored, put}
use Rattle.numbers.proofs.Numbers.{le_length, pow_256}
use Rattle.numbers.proofs.Lists.{stored_nil, stored_append, length_stored, put_fits}
use Rattle.btree_v2_record.specs.declared.layout.Field.{Field}
use Rattle.btree_v2_record.specs.Records.{RecordField, record_length, record_bytes, values_fit}
use Rattle.btree_v2_record.specs.Steps.{place_of, fields_of, filled}

module _ (fs : List Field) (i : ℕ) (d : Field) (h : i < length fs) where
  abbrev this : Field
  this = get_or fs i d

  abbrev left : ℕ → List RecordField
  left k = fields_of (drop k fs)

  pub length_left : record_length (left i) ≡ this.width + record_length (left (i + 1))
  unfolding record_length
  length_left = at_drop_more (λ (l : List Field). record_length (fields_of l)) fs i d h

  -- `read_fields`: the field's number goes to its place.
  pub filled_left : (b v u : List ℕ) (at x : ℕ) → x ≡ num b at (min this.width 8) → u ≡ set v (place_of this.meaning) x
      → filled (left i) (drop at b) v ≡ filled (left (i + 1)) (drop (at + this.width) b) u
  unfolding filled num
  filled_left b v u at x number there =
      let narrow : min this.width 8 ≡ this.width = omega (arith, this.narrow) in
      let same : x ≡ unle (take this.width (drop at b)) = rw narrow at number in
      let one : filled (left i) (drop at b) v ≡ filled (left (i + 1)) (drop this.width (drop at b)) (set v (place_of this.meaning) (unle (take this.width (drop at b)))) =
      at_drop_more (λ (l : List Field). filled (fields_of l) (drop at b) v) fs i d h in
      rw (← same, ← there, drop-drop) at one

  -- `put_fields`: the field's bytes go behind those before it.
  pub put_left : (v o e : List ℕ) (at next : ℕ) → at + record_length (left i) ≤ length o
      → (e ≡ put o at (le this.width (get_or v (place_of this.meaning) 0))) × (next ≡ pick (leb (at + this.width) (length o)) (at + this.width) at)
      → (next ≡ at + this.width) × (length e ≡ length o) × (stored e next (record_bytes (left (i + 1)) v) ≡ stored o at (record_bytes (left i) v))
  unfolding record_bytes
  put_left v o e at next room wrote =
      let b : List ℕ = le this.width (get_or v (place_of this.meaning) 0) in
      let size : length b ≡ this.width = le_length this.width (get_or v (place_of this.meaning) 0) in
      let within : at + length b ≤ length o = omega (arith, length_left) in
      let is : e ≡ stored o at b = wrote.0 ∙ put_fits o at b within in
      let on : next ≡ at + this.width = wrote.1 ∙ rw (le-leb (at + this.width) (length o) (omega arith)) in
      let more = at_drop_more (λ (l : List Field). record_bytes (fields_of l) v) fs i d h in
      (on, rw (is, length_stored o at b within), rw (is, on, more) (rw size at (stored_append o at b (omega arith) (record_bytes (left (i + 1)) v))))
  -- .. and where no field is left, nothing more is put.

pub put_all : (fs : List Field) (i : ℕ) (v o : List ℕ) (at : ℕ) → length fs ≤ i → stored o at (record_bytes (fields_of (drop i fs)) v) ≡ o
unfolding record_bytes
put_all fs i v o at h = at_drop_all (λ (l : List Field). stored o at (record_bytes (fields_of l) v)) fs i h ∙ stored_nil o at

-- A value fits where it has no bits above the field's bytes.
pub fits_less : (x w : ℕ) → eqb (x / 2 ^ (8 * w)) 0 ≡ ltb x (256 ^ w)
fits_less x w = rw pow_256 (by (ltb x (2 ^ (8 * w))) refl)
  where
    by : (t : Bool) → ltb x (2 ^ (8 * w)) ≡ t → eqb (x / 2 ^ (8 * w)) 0 ≡ t
    by true h = eq-eqb _ _ (div-eq_of_lt (ltb-true x (2 ^ (8 * w)) h))
    by false h =
        ne_eqb _ _
        (λ (e : x / 2 ^ (8 * w) ≡ 0).
        let less : x < 1 * 2 ^ (8 * w) = (div-lt_iff_lt-mul {k = 2 ^ (8 * w)} {x = x} {y = 1} (pow_pos (8 * w))).0 (rw e (lit≤ tt)) in
        omega (arith, ltb-false x (2 ^ (8 * w)) h))

-- Every value fits where each field's does.
pub fits_all : (fs : List Field) (v : List ℕ) → values_fit (fields_of fs) v ≡ list_all (λ (f : Field). ltb (get_or v (place_of f.meaning) 0) (256 ^ f.width)) fs
unfolding values_fit
fits_all [] v = refl
fits_all (f ∷ fs) v = rw (fits_all fs v)

-- The length is the sum of the widths, each at most 8.
pub length_sum : (fs : List Field) → record_length (fields_of fs) ≡ sum_by (λ (f : Field). f.width) fs
unfolding record_length
length_sum = is_sum_by (λ (fs : List Field). record_length (fields_of fs)) (λ (f : Field). f.width) refl (λ _ _. refl)

pub length_small : (fs : List Field) → record_length (fields_of fs) ≤ 8 * length fs
unfolding record_length
length_small [] = omega arith
length_small (f ∷ fs) = omega (arith, f.narrow, length_small fs)
