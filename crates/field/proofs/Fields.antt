-- Laws of a number field: what its test says, its number read at a place that is saturated, and in records with the same bytes.
use mathlib.Core.Path.{◌≡◌, refl, sym, ap, ◌∙◌}
use mathlib.Core.Bool.{Bool, true, false, ◌&&◌, true≢false}
use mathlib.Core.List.{List}
use Prim.Native.Nat.{ℕ, ◌+◌, ◌^◌, ◌≤◌, ◌<◌, min}
use native.Mathlib.Omega.{arith}
use native.Mathlib.Nat.{min-eq_left}
use lib.Dec.{leb}
use borrow.Author.Tests.{leb-true, leb-false, le-leb, lt-leb}
use Rattle.numbers.specs.Numbers.{unle, part, num, saturated}
use Rattle.numbers.proofs.Lists.{part_part}
use Rattle.field.specs.declared.Field.{Field}
use Rattle.field.specs.Field.{number_field, number_at}

module _ (f : Field) (rs : ℕ) where
  -- `is_in`: no byte, too many, or the field's end beside the record's.
  pub field_empty : f.width < 1 → false ≡ number_field f rs
  unfolding number_field
  field_empty h = rw (lt-leb 1 f.width h)

  pub field_wide : 8 < f.width → false ≡ number_field f rs
  unfolding number_field
  field_wide h = rw (le-leb 1 f.width (omega arith), lt-leb f.width 8 h)

  pub field_ends : (end : ℕ) → end ≡ saturated (f.start + f.width) → 1 ≤ f.width → f.width ≤ 8 → rs < 2 ^ 16 → leb end rs ≡ number_field f rs
  unfolding number_field
  field_ends end e some few small = rw (e, le-leb 1 f.width some, le-leb f.width 8 few) (by (leb (f.start + f.width) rs) refl)
    where
      by : (t : Bool) → leb (f.start + f.width) rs ≡ t → leb (saturated (f.start + f.width)) rs ≡ t
      by true h = le-leb (saturated (f.start + f.width)) rs (omega (arith, leb-true (f.start + f.width) rs h))
      by false h = lt-leb (saturated (f.start + f.width)) rs (omega (arith, leb-false (f.start + f.width) rs h))

  -- What a field that passes has.
  pub record Fits : Type 0 where
    pub some : 1 ≤ f.width
    pub few : f.width ≤ 8
    pub inside : f.start + f.width ≤ rs

  pub field_fits : number_field f rs ≡ true → Fits
  unfolding number_field
  field_fits e = by (leb 1 f.width) (leb f.width 8) (leb (f.start + f.width) rs) refl refl refl e
    where
      by : (s t u : Bool) → leb 1 f.width ≡ s → leb f.width 8 ≡ t → leb (f.start + f.width) rs ≡ u → (s && t) && u ≡ true → Fits
      by true true true a b c h = record { some = leb-true _ _ a; few = leb-true _ _ b; inside = leb-true _ _ c }
      by true true false a b c h = absurd (true≢false (sym h))
      by true false u a b c h = absurd (true≢false (sym h))
      by false t u a b c h = absurd (true≢false (sym h))

-- What `read` gives is the field's own number where it has 8 bytes at most.
pub number_is : (bytes : List ℕ) (f : Field) (p : ℕ) → f.width ≤ 8 → num bytes (p + f.start) (min f.width 8) ≡ number_at bytes f p
unfolding number_at
number_is bytes f p few = rw (min-eq_left few)

-- Records with the same bytes have the same number.
pub number_same : (l m : List ℕ) (f : Field) (rs p q : ℕ) → f.start + f.width ≤ rs → part l p rs ≡ part m q rs → number_at l f p ≡ number_at m f q
unfolding number_at num
number_same l m f rs p q inside e =
    ap unle (sym (part_part l p rs f.start f.width inside) ∙ ap (λ b. part b f.start f.width) e ∙ part_part m q rs f.start f.width inside)
