-- The tests that the readers share: bytes that are there, a signature, a checksum; and what a verdict tells.
use Rattle.std.specs.Prelude.{Result, Ok, Err, ⊤}
use mathlib.Core.Path.{◌≡◌, refl, sym, ◌∙◌}
use mathlib.Core.Bool.{Bool, true, false}
use mathlib.Core.List.{List, [], ◌∷◌}
use Prim.Native.Nat.{ℕ, ◌-◌, ◌≤◌, ◌<◌}
use native.Mathlib.Omega.{arith}
use lib.Dec.{leb, eqb}
use lib.ListN.{length, take, drop, length-take, length-drop}
use Rattle.std.specs.Cmp.Lexicographic.{pointwise, unequal, nat_list_eq_equiv}
use borrow.Author.Tests.{leb-true}
use Rattle.checksum.specs.Lookup3.{lookup3}
use Rattle.numbers.specs.Numbers.{part, num, saturated}
use Rattle.numbers.proofs.Lists.{part_rest}
use Rattle.refusal.specs.declared.Refusal.{Refusal}
use Rattle.refusal.specs.Answer.{Answer, accepted, refused, refusal_of, or_else, verdict_of}
use Rattle.refusal.proofs.Answers.{refused_is}
use Rattle.read_checks.specs.Tests.{needs, same, checksum_test}

-- What the verdict of a test tells of the test.
module _ (v : Result ⊤ Refusal) (t : Bool) (number : ℕ) (values : List ℕ)
    (code : verdict_of v ≡ or_else t (refused number values) (accepted [])) where
  pub verdict_passed : v ≡ Ok tt → t ≡ true
  verdict_passed e = by t (rw e at code)
    where
      by : (b : Bool) → accepted [] ≡ or_else b (refused number values) (accepted []) → b ≡ true
      by true h = refl
      by false h = cc

  pub verdict_stopped : (r : Refusal) → v ≡ Err r → (rest : Answer) → or_else t (refused number values) rest ≡ refusal_of r
  verdict_stopped r e rest = by t (rw e at code)
    where
      by : (b : Bool) → refusal_of r ≡ or_else b (refused number values) (accepted []) → or_else b (refused number values) rest ≡ refusal_of r
      by true h = let f = (refused_is r).2 in cc
      by false h = cc

-- The same of `ensure_len` and of `check_checksum`.
module _ (end length : ℕ) (v : Result ⊤ Refusal) (code : verdict_of v ≡ needs end length (accepted [])) where
  pub bytes_there : v ≡ Ok tt → end ≤ length
  bytes_there e = leb-true end length (verdict_passed v (leb end length) 1 (saturated end ∷ length ∷ []) code e)

module _ (file : List ℕ) (from end : ℕ) (v : Result ⊤ Refusal) (code : verdict_of v ≡ checksum_test file from end (accepted [])) where
  abbrev right : Bool
  right = eqb (num file end 4) (lookup3 (part file from (end - from)))

  abbrev figures : List ℕ
  figures = num file end 4 ∷ lookup3 (part file from (end - from)) ∷ []

  pub sum_right : v ≡ Ok tt → (rest : Answer) → checksum_test file from end rest ≡ rest
  unfolding checksum_test
  sum_right e rest = rw (verdict_passed v right 6 figures code e)

  pub sum_wrong : (r : Refusal) → v ≡ Err r → (rest : Answer) → checksum_test file from end rest ≡ refusal_of r
  unfolding checksum_test
  sum_wrong = verdict_stopped v right 6 figures code

-- `has_signature`: the library's `==` at bytes is `same`; where fewer than four bytes are there, none are the signature's.
same_is : (xs ys : List ℕ) → pointwise eqb xs ys ≡ same xs ys
unfolding same
same_is [] [] = refl
same_is [] (y ∷ ys) = refl
same_is (x ∷ xs) [] = refl
same_is (x ∷ xs) (y ∷ ys) = rw (same_is xs ys)

module _ (l signature : List ℕ) (p : ℕ) (four : length signature ≡ 4) where
  pub signature_none : length l < p → false ≡ same (part l p 4) signature
  signature_none h =
      let few : length (part l p 4) < 4 = simp (length-take, length-drop) (omega arith) in
      sym (unequal eqb (part l p 4) signature (λ e. omega (arith, few, e))) ∙ same_is (part l p 4) signature

  pub signature_starts : (rest : List ℕ) → rest ≡ take (length l - p) (drop p l) → (starts : Bool)
      → starts ≡ pointwise eqb signature (take (length signature) rest) → starts ≡ same (part l p 4) signature
  signature_starts rest e starts is = is ∙ rw (e, part_rest l p (length l - p) (omega arith), four) (nat_list_eq_equiv.symm signature (part l p 4) ∙ same_is (part l p 4) signature)
