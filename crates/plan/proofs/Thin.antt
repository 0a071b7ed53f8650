-- Refusal 11: a plan that is not refused has no subtree too thin, and whether one is too thin is decided at the root.
use mathlib.Core.Path.{◌≡◌, refl}
use mathlib.Core.Bool.{Bool, true, false}
use mathlib.Core.List.{List, [], ◌∷◌}
use mathlib.Core.Logic.{⊎_elim}
use Prim.Native.Nat.{ℕ, zero, suc, ◌+◌, ◌-◌, ◌*◌, ◌^◌, ◌≤◌, ◌<◌}
use native.Mathlib.Nat.{pow-succ', one-le-pow, mul-le-mul_left, mul-le-mul_right}
use native.Mathlib.Omega.{arith}
use native.Mathlib.Numerals.{add-one}
use lib.Dec.{ltb, lit<, lit≤}
use borrow.Author.Tests.{ltb-false, lt-ltb, le-ltb}
use Rattle.std.specs.List.{All}
use Rattle.std.proofs.lemmas.Bool.{cases_lt, or_parts}
use Rattle.std.proofs.lemmas.List.Elements.{All-nil, All-cons}
use Rattle.plan.specs.Planned.{taken, children, any_of, thin}
use Rattle.plan.proofs.Distributing.{taken_most, taken_many, taken_pos, children_le, children_ge}

-- What is known of the capacities of the levels up to d: c of a subtree, m of a node.
pub record Levels (c m : ℕ → ℕ) (d : ℕ) : Type 0 where
  pub leaf : c 0 ≤ m 0
  pub most : (u : ℕ) → u < d → c (suc u) ≤ (m (suc u) + 1) * c u + m (suc u)
  pub some : (u : ℕ) → u < d → 1 ≤ m (suc u)
  pub room : (u : ℕ) → u < d → 2 ≤ m (suc u) → 3 ^ (u + 1) ≤ c u + 1

pub levels_below : (c m : ℕ → ℕ) (d : ℕ) → Levels c m (suc d) → Levels c m d
levels_below c m d l =
    record {
      leaf = l.leaf;
      most = λ u h. l.most u (omega arith);
      some = λ u h. l.some u (omega arith);
      room = λ u h. l.room u (omega arith);
    }

double : (d : ℕ) → 2 ^ (d + 1) ≡ 2 * 2 ^ d
double d = rw (add-one, pow-succ')

next : (d : ℕ) → 2 ^ (d + 2) ≡ 2 * 2 ^ (d + 1)
next d = let s : d + 2 ≡ d + 1 + 1 = omega arith in rw (s, double (d + 1))

-- None of a list, one by one.
pub any_none : (f : ℕ → Bool) (l : List ℕ) → All (λ x. f x ≡ false) l → any_of f l ≡ false
unfolding any_of
any_none f [] a = refl
any_none f (x ∷ xs) a = rw (a 0 0 (omega arith), any_none f xs (λ i e b. a (suc i) e (omega arith)))

pub none_any : (f : ℕ → Bool) (l : List ℕ) → any_of f l ≡ false → All (λ x. f x ≡ false) l
unfolding any_of
none_any f [] e = All-nil (λ x. f x ≡ false)
none_any f (x ∷ xs) e = let b = or_parts (f x) (any_of f xs) e in All-cons (λ y. f y ≡ false) x xs b.0 (none_any f xs b.1)

-- A subtree that is not too thin has the records for its depth, so one at least, and its children are not too thin.
module _ (c : ℕ → ℕ) where
  pub thin_least : (d n : ℕ) → thin c d n ≡ false → 2 ^ (d + 1) - 1 ≤ n
  unfolding thin
  thin_least zero n e = ltb-false n 1 e
  thin_least (suc d) n e =
      let s : suc d + 1 ≡ d + 2 = omega arith in
      rw s (ltb-false n (2 ^ (d + 2) - 1) (or_parts _ (any_of (thin c d) (children (c d) n)) e).0)

  pub thin_pos : (d n : ℕ) → thin c d n ≡ false → 1 ≤ n
  thin_pos d n e = omega (arith, thin_least d n e, one-le-pow d 2 (lit< tt), double d)

  pub thin_children : (d n : ℕ) → thin c (suc d) n ≡ false → All (λ x. thin c d x ≡ false) (children (c d) n)
  unfolding thin
  thin_children d n e = none_any (thin c d) (children (c d) n) (or_parts (ltb n (2 ^ (d + 2) - 1)) _ e).1

-- Three halves of 2^e fit 3^e.
gap : (e : ℕ) → 3 * 2 ^ e ≤ 2 * 3 ^ e + 1
gap zero = lit≤ tt
gap (suc e) = rw (pow-succ', pow-succ') (omega (arith, gap e, one-le-pow e 3 (lit< tt)))

-- Where k records are kept of n at least, each of k + 1 children has b records, b from the level's depth.
one_kept : (b k n : ℕ) → k ≡ 1 → 2 * b + 1 ≤ n → b * (k + 1) + k ≤ n
one_kept b k n e h = rw e (omega arith)

many_kept : (b c k n : ℕ) → 2 ≤ k → 3 * b ≤ 2 * c → k * (c + 1) ≤ n → b * (k + 1) + k ≤ n
many_kept b c k n h l t = omega (arith, mul-le-mul_left k l, mul-le-mul_right b h)

module _ (c m : ℕ → ℕ) where
  distributed_enough : (d n : ℕ) → Levels c m (suc d) → n ≤ c (suc d) → 2 ^ (d + 2) - 1 ≤ n
      → (2 ^ (d + 1) - 1) * (taken (c d) n + 1) + taken (c d) n ≤ n
  distributed_enough d n l h e =
      ⊎_elim
      (λ (one : taken (c d) n < 2).
      one_kept (2 ^ (d + 1) - 1) (taken (c d) n) n (omega (arith, taken_pos (c d) n)) (omega (arith, next d, one-le-pow (d + 1) 2 (lit< tt))))
      (λ (many : 2 ≤ taken (c d) n).
      let kept : taken (c d) n ≤ m (suc d) = taken_most (c d) (m (suc d)) n (l.some d (omega arith)) (omega (arith, l.most d (omega arith))) in
      many_kept (2 ^ (d + 1) - 1) (c d) (taken (c d) n) n many (omega (arith, gap (d + 1), l.room d (omega arith) (omega arith)))
      (taken_many (c d) n many))
      (cases_lt (taken (c d) n) 2)

  pub thin_not : (d n : ℕ) → Levels c m d → n ≤ c d → 2 ^ (d + 1) - 1 ≤ n → thin c d n ≡ false
  unfolding thin
  thin_not zero n l h e = le-ltb n 1 e
  thin_not (suc d) n l h e =
      let s : suc d + 1 ≡ d + 2 = omega arith in
      let g : 2 ^ (d + 2) - 1 ≤ n = rw s at e in
      rw (le-ltb n (2 ^ (d + 2) - 1) g)
      (any_none (thin c d) (children (c d) n)
      (λ i e b.
      thin_not d _ (levels_below c m d l) (children_le (c d) n i e b) (children_ge (2 ^ (d + 1) - 1) (c d) n (distributed_enough d n l h g) i e b)))

  thin_yes : (d n : ℕ) → n < 2 ^ (d + 1) - 1 → thin c d n ≡ true
  unfolding thin
  thin_yes zero n h = lt-ltb n 1 h
  thin_yes (suc d) n h =
      let s : suc d + 1 ≡ d + 2 = omega arith in rw (lt-ltb n (2 ^ (d + 2) - 1) (rw s at h))

  -- Decided at the root.
  pub thin_root : (d n : ℕ) → Levels c m d → n ≤ c d → thin c d n ≡ ltb n (2 ^ (d + 1) - 1)
  thin_root d n l h =
      ⊎_elim
      (λ (less : n < 2 ^ (d + 1) - 1). rw (thin_yes d n less, lt-ltb n (2 ^ (d + 1) - 1) less))
      (λ (enough : 2 ^ (d + 1) - 1 ≤ n). rw (thin_not d n l h enough, le-ltb n (2 ^ (d + 1) - 1) enough))
      (cases_lt n (2 ^ (d + 1) - 1))
