-- The tests of a node, and before the root, accept with no figures and never refuse by 15, which the output alone causes.
use mathlib.Core.Path.{◌≡◌}
use mathlib.Core.Bool.{Bool, true, false}
use mathlib.Core.List.{List, []}
use Prim.Native.Nat.{ℕ, ◌+◌, ◌-◌}
use native.Mathlib.Omega.{arith}
use lib.Dec.{leb, ltb, eqb}
use lib.ListN.{length}
use Rattle.checksum.specs.Lookup3.{lookup3}
use Rattle.numbers.specs.Numbers.{part, num}
use Rattle.refusal.specs.Answer.{Answer, accepted, refused, or_else, on_accepted}
use Rattle.read_checks.specs.Tests.{same, front_test, checksum_test, root_test}

pub data Plain : Answer → Type 0 where
  accepts : Plain (accepted [])
  refuses : (number : ℕ) {values : List ℕ} → (number ≡ 15 → ⊥) → Plain (refused number values)

pub no_figures : {a : Answer} {figures : List ℕ} → Plain a → a ≡ accepted figures → figures ≡ []
no_figures accepts e = cc
no_figures (refuses k h) e = cc

pub never_by_15 : {a : Answer} {number : ℕ} {values : List ℕ} → Plain a → a ≡ refused number values → number ≡ 15 → ⊥
never_by_15 accepts e is = let z : ◌≡◌ {A = ℕ} 0 1 = cc in omega arith
never_by_15 (refuses k h) e is = h (cc)

-- One test after another.
pub plain_or : (t : Bool) {a b : Answer} → Plain a → Plain b → Plain (or_else t a b)
plain_or true p q = q
plain_or false p q = p

pub plain_on : (a : Answer) {b : Answer} → Plain a → Plain b → Plain (on_accepted a b)
plain_on (accepted figures) p q = q
plain_on (refused number values) p q = p

-- The tests that leaves and internal nodes share.
module _ (file : List ℕ) where
  pub front_plain : (signature : List ℕ) (a : ℕ) → Plain (front_test file signature a)
  unfolding front_test
  front_plain signature a =
      plain_or (leb (a + 6) (length file)) (refuses 1 (omega arith)) (plain_or (same (part file a 4) signature) (refuses 2 (omega arith)) accepts)

  pub checksum_plain : (from end : ℕ) → Plain (checksum_test file from end (accepted []))
  unfolding checksum_test
  checksum_plain from end = plain_or (eqb (num file end 4) (lookup3 (part file from (end - from)))) (refuses 6 (omega arith)) accepts

pub root_plain : (rs depth : ℕ) → Plain (root_test rs depth)
unfolding root_test
root_plain rs depth = plain_or (ltb 0 rs) (refuses 8 (omega arith)) (plain_or (leb depth 32) (refuses 16 (omega arith)) accepts)
