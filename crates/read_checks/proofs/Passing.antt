-- Where the readers' tests pass, and what a test that is passed tells.
use mathlib.Core.Path.{◌≡◌, refl}
use mathlib.Core.Bool.{true}
use mathlib.Core.List.{List, [], ◌∷◌}
use Prim.Native.Nat.{ℕ, ◌+◌, ◌≤◌}
use lib.ListN.{length}
use borrow.Author.Tests.{leb-true, le-leb, eq-eqb}
use Rattle.numbers.specs.Numbers.{part}
use Rattle.refusal.specs.Answer.{Answer, accepted}
use Rattle.refusal.proofs.Answers.{test_passed}
use Rattle.read_checks.specs.Tests.{needs, same, front_test}

-- What a test that is passed tells.
pub there : (end length : ℕ) (figures : List ℕ) (rest : Answer) → needs end length rest ≡ accepted figures
    → (end ≤ length) × (rest ≡ accepted figures)
there end length figures rest e =
    let h = test_passed 1 _ e in (leb-true end length h.0, h.1)

pub same_refl : (xs : List ℕ) → same xs xs ≡ true
unfolding same
same_refl [] = refl
same_refl (x ∷ xs) = rw (eq-eqb x x refl, same_refl xs)

-- A node's front.
module _ (file signature : List ℕ) (a : ℕ) where
  pub front_passes : a + 6 ≤ length file → part file a 4 ≡ signature → front_test file signature a ≡ accepted []
  unfolding front_test
  front_passes h e = rw (le-leb (a + 6) (length file) h, e, same_refl signature)

  pub front_there : (figures : List ℕ) → front_test file signature a ≡ accepted figures → a + 6 ≤ length file
  unfolding front_test
  front_there figures e = (there (a + 6) (length file) figures _ e).0
