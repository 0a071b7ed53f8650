-- Two runs of one number each, and the children that are made of a list.
use mathlib.Core.Path.{◌≡◌, refl}
use mathlib.Core.List.{List, [], ◌∷◌, ◌++◌}
use Prim.Native.Nat.{ℕ, suc, ◌+◌, ◌-◌, ◌≤◌, ◌<◌}
use native.Mathlib.Nat.{not-suc-le-zero}
use native.Mathlib.Omega.{arith}
use lib.ListN.{length, get_or, replicate, length-replicate, get_or-replicate, get_or-append}
use lib.Seq.{get_or-append-add}
use Rattle.std.specs.List.{All, sum_by}
use Rattle.std.proofs.lemmas.List.Sums.{sum_by-cons}
use Rattle.plan.specs.Tree.{sum_kids, between, AllKids}
use Rattle.plan.specs.Planned.{kids_of}

-- Element i of two runs.
pub first_run : (r x : ℕ) (l : List ℕ) (i : ℕ) → i < r → get_or (replicate r x ++ l) i 0 ≡ x
first_run r x l i h = rw (get_or-append (replicate r x) l 0 i (rw length-replicate h), get_or-replicate r i x 0 h)

pub second_run : (r s x y i : ℕ) → r ≤ i → i < r + s → get_or (replicate r x ++ replicate s y) i 0 ≡ y
second_run r s x y i h l =
    let e : i ≡ length (replicate r x) + (i - r) = rw length-replicate (omega arith) in
    rw (e, get_or-append-add, get_or-replicate s (i - r) y 0 (omega arith))

-- The sums of two functions that agree on every element.
pub sum_by_cong : (f g : ℕ → ℕ) (l : List ℕ) → All (λ x. f x ≡ g x) l → sum_by f l ≡ sum_by g l
sum_by_cong f g [] a = refl
sum_by_cong f g (x ∷ xs) a =
    let rest = sum_by_cong f g xs (λ i e b. a (suc i) e (omega arith)) in
    omega (arith, sum_by-cons f x xs, sum_by-cons g x xs, a 0 0 (omega arith), rest)

module _ {A : Type 0} (f : ℕ → A) where
  -- The children of a list that is not empty: sums, their number, and what holds of all.
  pub sum_kids_of : (g : A → ℕ) (l : List ℕ) → 0 < length l → sum_kids g (kids_of f l) ≡ sum_by (λ x. g (f x)) l
  unfolding kids_of sum_kids
  sum_kids_of g [] h = absurd (not-suc-le-zero h)
  sum_kids_of g (x ∷ []) h = omega arith
  sum_kids_of g (x ∷ y ∷ l) h = omega (arith, sum_by-cons (λ x. g (f x)) x (y ∷ l), sum_kids_of g (y ∷ l) (omega arith))

  pub between_of : (l : List ℕ) → 0 < length l → between (kids_of f l) + 1 ≡ length l
  unfolding kids_of between
  between_of [] h = absurd (not-suc-le-zero h)
  between_of (x ∷ []) h = refl
  between_of (x ∷ y ∷ l) h = omega (arith, between_of (y ∷ l) (omega arith))

  pub all_kids_of : (P : A → Type 0) (l : List ℕ) → 0 < length l → All (λ x. P (f x)) l → AllKids P (kids_of f l)
  unfolding kids_of
  all_kids_of P [] h a = absurd (not-suc-le-zero h)
  all_kids_of P (x ∷ []) h a = a 0 0 h
  all_kids_of P (x ∷ y ∷ l) h a = (a 0 0 h, all_kids_of P (y ∷ l) (omega arith) (λ i e b. a (suc i) e (omega arith)))
