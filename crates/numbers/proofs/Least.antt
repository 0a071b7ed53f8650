-- The least number of which a test holds, sought from a number on.
use mathlib.Core.Path.{◌≡◌, refl, sym, ◌∙◌}
use mathlib.Core.Bool.{Bool, true, false, true≢false}
use mathlib.Core.Logic.{⊎_elim}
use Prim.Native.Nat.{ℕ, zero, suc, ◌+◌, ◌≤◌, ◌<◌}
use native.Mathlib.Nat.{eq-or-lt_of_le, not-le_of_lt}
use native.Mathlib.Omega.{arith}
use Rattle.std.proofs.lemmas.Bool.{cases_lt}
use Rattle.numbers.specs.Numbers.{pick, least_from}

module _ (f : ℕ → Bool) where
  abbrev Least : ℕ → ℕ → ℕ → Type 0
  Least k u r = (u ≤ r) × (r ≤ u + k) × ((v : ℕ) → u ≤ v → v < r → f v ≡ false) × (r < u + k → f r ≡ true)

  least_step : (k u : ℕ) (b : Bool) → f u ≡ b → (r : ℕ) → Least k (u + 1) r → Least (suc k) u (pick b u r)
  least_step k u true e r later = (omega arith, omega arith, λ v a l. absurd (not-le_of_lt l a), λ l. e)
  least_step k u false e r later = (
    omega (arith, later.0),
    omega (arith, later.1),
    λ v a l. ⊎_elim (λ (same : u ≡ v). rw (← same) e) (λ (above : u < v). later.2 v (omega arith) l) (eq-or-lt_of_le a),
    λ l. later.3 (omega arith),
  )

  least : (k u : ℕ) → Least k u (least_from f k u)
  unfolding least_from
  least zero u = (omega arith, omega arith, λ v a l. absurd (not-le_of_lt l a), λ l. absurd (omega arith))
  least (suc k) u = least_step k u (f u) refl (least_from f k (u + 1)) (least k (u + 1))

  module _ (k u : ℕ) where
    pub least_from_le : u ≤ least_from f k u
    least_from_le = (least k u).0

    pub least_le : least_from f k u ≤ u + k
    least_le = (least k u).1

    pub least_before : (v : ℕ) → u ≤ v → v < least_from f k u → f v ≡ false
    least_before = (least k u).2

    pub least_at : least_from f k u < u + k → f (least_from f k u) ≡ true
    least_at = (least k u).3

    pub least_is : (r : ℕ) → u ≤ r → r < u + k → ((v : ℕ) → u ≤ v → v < r → f v ≡ false) → f r ≡ true → least_from f k u ≡ r
    least_is r a h none here =
        let below : least_from f k u ≤ r =
        ⊎_elim
        (λ (l : r < least_from f k u). absurd (true≢false (sym here ∙ least_before r a l)))
        (λ (l : least_from f k u ≤ r). l)
        (cases_lt r (least_from f k u)) in
        let above : r ≤ least_from f k u =
        ⊎_elim
        (λ (l : least_from f k u < r). absurd (true≢false (sym (least_at (omega arith)) ∙ none _ least_from_le l)))
        (λ (l : r ≤ least_from f k u). l)
        (cases_lt (least_from f k u) r) in
        omega arith
