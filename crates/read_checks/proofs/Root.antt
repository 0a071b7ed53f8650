-- The tests before the root: one law for each outcome, and what a tree that passes has.
use mathlib.Core.Path.{◌≡◌, refl}
use mathlib.Core.Bool.{Bool, true, false}
use mathlib.Core.List.{[], ◌∷◌}
use Prim.Native.Nat.{ℕ, ◌≤◌}
use native.Mathlib.Omega.{arith}
use lib.Dec.{leb, ltb}
use borrow.Author.Tests.{eq-eqb, ne_eqb, lt-ltb, le-leb, leb-true, ltb-true}
use Rattle.refusal.specs.Answer.{accepted, refused, or_else}
use Rattle.read_checks.specs.Tests.{no_records, root_test}

-- A tree without records, and one with some.
pub none_in_all : (total root : ℕ) → total ≡ 0 → true ≡ no_records total root
none_in_all total root e = rw (eq-eqb total 0 e)

pub some_records : (total root : ℕ) → (total ≡ 0 → ⊥) → (root ≡ 0 → ⊥) → no_records total root ≡ false
some_records total root h k = rw (ne_eqb total 0 h, ne_eqb root 0 k)

-- The tests.
module _ (rs depth : ℕ) where
  pub root_passes : (rs ≡ 0 → ⊥) → depth ≤ 32 → accepted [] ≡ root_test rs depth
  unfolding root_test
  root_passes h l = rw (lt-ltb 0 rs (omega arith), le-leb depth 32 l)

  pub record Rooted : Type 0 where
    pub sized : rs ≡ 0 → ⊥
    pub deep : depth ≤ 32

  pub root_passed : root_test rs depth ≡ accepted [] → Rooted
  unfolding root_test
  root_passed e = both (ltb 0 rs) refl (leb depth 32) refl e
    where
      both : (s : Bool) → ltb 0 rs ≡ s → (t : Bool) → leb depth 32 ≡ t
          → or_else s (refused 8 []) (or_else t (refused 16 (depth ∷ [])) (accepted [])) ≡ accepted [] → Rooted
      both true h true k f = record { sized = λ z. omega (arith, ltb-true 0 rs h); deep = leb-true depth 32 k }
      both true h false k f = let z : ◌≡◌ {A = ℕ} 0 1 = cc in absurd (omega arith)
      both false h t k f = let z : ◌≡◌ {A = ℕ} 0 1 = cc in absurd (omega arith)
