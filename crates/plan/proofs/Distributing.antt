-- What an internal node keeps and what it distributes to its children.
use mathlib.Core.Path.{◌≡◌, refl}
use mathlib.Core.List.{◌++◌}
use mathlib.Core.Logic.{⊎_elim}
use Prim.Native.Nat.{ℕ, ◌+◌, ◌-◌, ◌*◌, ◌/◌, ◌%◌, ◌≤◌, ◌<◌, max}
use native.Mathlib.Nat.{mod-lt, div-add-mod, div-eq_of_lt, div-le_self, lt-mul-div-succ, mul-div-le, le-div_iff_mul-le, div-lt_iff_lt-mul, mul-le-mul_left, lt_of_mul-lt-mul_left, div-le_of_le-mul}
use native.Mathlib.Numerals.{add-one}
use native.Mathlib.Omega.{arith}
use lib.ListN.{length, get_or, replicate, length-append, length-replicate}
use Rattle.std.proofs.lemmas.Bool.{cases_lt}
use Rattle.plan.specs.Planned.{ceil_div, taken, distributed, children}
use Rattle.std.specs.List.{All, sum_by}
use Rattle.std.proofs.lemmas.List.Elements.{All-from_get_or}
use Rattle.std.proofs.lemmas.List.Sums.{sum_by-append}
use Rattle.std.proofs.lemmas.List.Folds.{sum_by-replicate}
use Rattle.plan.proofs.Lists.{first_run, second_run}

-- The quotient, rounded up, is one rounded down.
pub ceil_floor : (c n : ℕ) → ceil_div (n - c) (c + 1) ≡ n / (c + 1)
ceil_floor c n =
    ⊎_elim
    (λ (h : n < c).
    let e : n - c + (c + 1 - 1) ≡ c = omega arith in
    let l : n < c + 1 = omega arith in
    let k : c < c + 1 = omega arith in
    rw (e, div-eq_of_lt k, div-eq_of_lt l))
    (λ (h : c ≤ n). let e : n - c + (c + 1 - 1) ≡ n = omega arith in rw e)
    (cases_lt n c)

pub taken_is : (c n : ℕ) → taken c n ≡ max 1 (n / (c + 1))
unfolding taken
taken_is c n = rw (ceil_floor c n)

-- A node keeps one record at least, and no more than it has.
pub taken_pos : (c n : ℕ) → 1 ≤ taken c n
taken_pos c n = omega (arith, taken_is c n)

pub taken_le : (c n : ℕ) → 1 ≤ n → taken c n ≤ n
taken_le c n h = omega (arith, taken_is c n, div-le_self n (c + 1))

-- It keeps just one below twice what a child's subtree and a record come to, and else a quotient.
pub taken_one : (c n : ℕ) → n < 2 * (c + 1) → taken c n ≡ 1
taken_one c n h =
    omega (arith, taken_is c n, (div-lt_iff_lt-mul {k = c + 1} {x = n} {y = 2} (omega arith)).1 h)

pub taken_quotient : (c n : ℕ) → 2 * (c + 1) ≤ n → taken c n ≡ n / (c + 1)
taken_quotient c n h =
    omega (arith, taken_is c n, (le-div_iff_mul-le {k = c + 1} {x = 2} {y = n} (omega arith)).1 h)

-- It keeps no more than m where m would do.
pub taken_most : (c m n : ℕ) → 1 ≤ m → n ≤ (m + 1) * c + m → taken c n ≤ m
taken_most c m n h l =
    omega (arith, taken_is c n, (div-lt_iff_lt-mul {k = c + 1} {x = n} {y = m + 1} (omega arith)).1 (omega arith))

-- It keeps enough: what is left fits the children.
pub taken_enough : (c n : ℕ) → n ≤ (taken c n + 1) * c + taken c n
taken_enough c n =
    let q : n / (c + 1) + 1 ≤ taken c n + 1 = omega (arith, taken_is c n) in
    omega (arith, lt-mul-div-succ n {b = c + 1} (omega arith), mul-le-mul_left (c + 1) q)

-- Where it keeps more than one, it has that many full children's records and as many between them.
pub taken_many : (c n : ℕ) → 2 ≤ taken c n → taken c n * (c + 1) ≤ n
taken_many c n h =
    let e : n / (c + 1) ≡ taken c n = omega (arith, taken_is c n) in rw (← e) (omega (arith, mul-div-le n (c + 1)))

-- What each child gets of the records that are not kept, and how many children get one more.
abbrev pub share : ℕ → ℕ → ℕ
share c n = (n - taken c n) / (taken c n + 1)

abbrev pub extra : ℕ → ℕ → ℕ
extra c n = (n - taken c n) % (taken c n + 1)

pub extra_lt : (c n : ℕ) → extra c n < taken c n + 1
extra_lt c n = mod-lt (n - taken c n) (omega arith)

pub share_extra : (c n : ℕ) → (taken c n + 1) * share c n + extra c n ≡ n - taken c n
share_extra c n = div-add-mod (n - taken c n) (taken c n + 1)

pub children_is : (c n : ℕ)
    → children c n ≡ replicate (extra c n) (share c n + 1) ++ replicate (taken c n + 1 - extra c n) (share c n)
unfolding children distributed
children_is c n = refl

pub length_children : (c n : ℕ) → length (children c n) ≡ taken c n + 1
length_children c n =
    rw (children_is, length-append, length-replicate, length-replicate) (omega (arith, extra_lt c n))

pub children_some : (c n : ℕ) → 0 < length (children c n)
children_some c n = omega (arith, length_children c n)

-- A sum over the children goes by their two numbers.
pub sum_of_children : (f : ℕ → ℕ) (c n : ℕ)
    → sum_by f (children c n) ≡ extra c n * f (share c n + 1) + (taken c n + 1 - extra c n) * f (share c n)
sum_of_children f c n = rw (children_is c n, sum_by-append f, sum_by-replicate f, sum_by-replicate f)

-- All that is not kept is distributed.
shares : (r s b p : ℕ) → r + s ≡ p → r * (b + 1) + s * b ≡ p * b + r
shares r s b p e = rw (← e) (omega arith)

pub sum_children : (c n : ℕ) → sum_by (λ x. x) (children c n) ≡ n - taken c n
sum_children c n =
    let p = taken c n + 1 in
    let e : extra c n + (p - extra c n) ≡ p = omega (arith, extra_lt c n) in
    rw (sum_of_children, shares (extra c n) (p - extra c n) (share c n) p e) (share_extra c n)

-- Child i's number of records.
pub child_more : (c n i : ℕ) → i < extra c n → get_or (children c n) i 0 ≡ share c n + 1
child_more c n i h = rw children_is (first_run (extra c n) (share c n + 1) _ i h)

pub child_less : (c n i : ℕ) → extra c n ≤ i → i ≤ taken c n → get_or (children c n) i 0 ≡ share c n
child_less c n i h l =
    rw children_is (second_run (extra c n) (taken c n + 1 - extra c n) (share c n + 1) (share c n) i h (omega arith))

-- What holds of both numbers, of the larger where there is one, holds of every child.
pub all_children : (P : ℕ → Type 0) (c n : ℕ) → (0 < extra c n → P (share c n + 1)) → P (share c n) → All P (children c n)
all_children P c n h l =
    All-from_get_or P (children c n) 0
    (λ i b.
    ⊎_elim
    (λ (first : i < extra c n). rw (child_more c n i first) (h (omega arith)))
    (λ (other : extra c n ≤ i). rw (child_less c n i other (omega (arith, b, length_children c n))) l)
    (cases_lt i (extra c n)))

-- A child has no more than fits its subtree, and no fewer than any b that all can have.
pub children_le : (c n : ℕ) → All (λ x. x ≤ c) (children c n)
children_le c n =
    let p = taken c n + 1 in
    let fits : n - taken c n ≤ p * c = omega (arith, taken_enough c n) in
    all_children (λ x. x ≤ c) c n
    (λ h. rw add-one (lt_of_mul-lt-mul_left p {m = share c n} {n = c} (omega (arith, share_extra c n))))
    (div-le_of_le-mul p fits)

pub children_ge : (b c n : ℕ) → b * (taken c n + 1) + taken c n ≤ n → All (λ x. b ≤ x) (children c n)
children_ge b c n h =
    let least : b ≤ share c n = (le-div_iff_mul-le {k = taken c n + 1} {x = b} {y = n - taken c n} (omega arith)).1 (omega arith) in
    all_children (λ x. b ≤ x) c n (λ _. omega arith) least

-- And what holds of every child holds of both.
module _ (P : ℕ → Type 0) (c n : ℕ) where
  pub all_children_less : All P (children c n) → P (share c n)
  all_children_less a =
      rw (child_less c n (taken c n) (omega (arith, extra_lt c n)) (omega arith)) at (a (taken c n) 0 (omega (arith, length_children c n)))

  pub all_children_more : 0 < extra c n → All P (children c n) → P (share c n + 1)
  all_children_more h a = rw (child_more c n 0 h) at (a 0 0 (children_some c n))
