-- Places and the keys that they have: the first and the last of a list with a key, the first number whose key is not below one, and lists
-- that never fall in key.
use mathlib.Core.Path.{◌≡◌, refl, ap}
use mathlib.Core.Logic.{⊎_elim}
use mathlib.Core.Bool.{Bool, true, false}
use mathlib.Core.List.{List, [], ◌∷◌, ◌++◌, cons≢nil}
use Prim.Native.Nat.{ℕ, zero, suc, ◌+◌, ◌≤◌, ◌<◌}
use native.Mathlib.Nat.{suc-add}
use native.Mathlib.Numerals.{add-one}
use native.Mathlib.Omega.{arith}
use lib.Dec.{ltb, eqb}
use lib.ListN.{length, get_or}
use borrow.Author.Tests.{ltb-true, ltb-false, eqb-true, eqb-false, eq-eqb, ne_eqb}
use Rattle.std.specs.List.{All}
use Rattle.std.proofs.lemmas.Bool.{cases_lt}
use Rattle.std.proofs.lemmas.List.Elements.{All-nil, All-cons, All-head, All-tail, All-weaker, All-from_get_or}
use Rattle.numbers.specs.Numbers.{pick}
use Rattle.btree_v2_find.specs.Find.{one_of, bound_from, if_key, last_with}

-- The first of these places whose key is x: a list of one, or of none.
unfoldable pub first_with : (ℕ → ℕ) → ℕ → List ℕ → List ℕ
first_with key x [] = []
first_with key x (p ∷ ps) = one_of (if_key key x p) (first_with key x ps)

-- What holds of all of two lists, end to end, holds of all of each.
all_apart : (P : ℕ → Type 0) (ps qs : List ℕ) → All P (ps ++ qs) → All P ps × All P qs
all_apart P [] qs h = (All-nil P, h)
all_apart P (p ∷ ps) qs h =
    let t = all_apart P ps qs (All-tail P p (ps ++ qs) h) in
    (All-cons P p ps (All-head P p (ps ++ qs) h) t.0, t.1)

-- A place where the test holds.
pub all_pick : (P : ℕ → Type 0) (p : ℕ) (t : Bool) → (t ≡ true → P p) → All P (pick t (p ∷ []) [])
all_pick P p true h = All-cons P p [] (h refl) (All-nil P)
all_pick P p false h = All-nil P

-- The first of two lists that is not empty.
pub one_nil : (ps : List ℕ) → ps ≡ one_of ps []
one_nil [] = refl
one_nil (p ∷ ps) = refl

pub one_assoc : (ps qs rs : List ℕ) → one_of ps (one_of qs rs) ≡ one_of (one_of ps qs) rs
one_assoc [] qs rs = refl
one_assoc (p ∷ ps) qs rs = refl

all_one : (P : ℕ → Type 0) (ps qs : List ℕ) → All P ps → All P qs → All P (one_of ps qs)
all_one P [] qs h k = k
all_one P (p ∷ ps) qs h k = h

-- None, or one place.
pub data AtMostOne : List ℕ → Type 0 where
  no_place : AtMostOne []
  one_place : (p : ℕ) → AtMostOne (p ∷ [])

most_one : {ps qs : List ℕ} → AtMostOne ps → AtMostOne qs → AtMostOne (one_of ps qs)
most_one no_place q = q
most_one (one_place p) q = one_place p

module _ (key : ℕ → ℕ) (x : ℕ) where
  abbrev pub HasNot : ℕ → Type 0
  HasNot p = key p ≡ x → ⊥

  -- None of these has the key.
  abbrev pub NoneHas : List ℕ → Type 0
  NoneHas = All HasNot

  -- Lists end to end.
  pub first_append : (ps qs : List ℕ) → first_with key x (ps ++ qs) ≡ one_of (first_with key x ps) (first_with key x qs)
  unfolding first_with
  first_append [] qs = refl
  first_append (p ∷ ps) qs = rw (first_append ps qs, one_assoc)

  pub last_append : (ps qs : List ℕ) → last_with key x (ps ++ qs) ≡ one_of (last_with key x qs) (last_with key x ps)
  unfolding last_with
  last_append [] qs = one_nil (last_with key x qs)
  last_append (p ∷ ps) qs = rw (last_append ps qs, one_assoc)

  -- The first with the key, by its number, and none.
  pub first_is : (ps : List ℕ) (i : ℕ) → i < length ps → key (get_or ps i 0) ≡ x → ((j : ℕ) → j < i → key (get_or ps j 0) ≡ x → ⊥)
      → first_with key x ps ≡ get_or ps i 0 ∷ []
  unfolding first_with
  first_is [] i l e h = absurd (omega arith)
  first_is (p ∷ ps) zero l e h = rw (eq-eqb (key p) x e)
  first_is (p ∷ ps) (suc i) l e h =
      rw (ne_eqb (key p) x (h 0 (omega arith))) (first_is ps i (omega arith) e (λ j k. h (suc j) (omega arith)))

  pub first_none : (ps : List ℕ) → NoneHas ps → first_with key x ps ≡ []
  unfolding first_with
  first_none [] h = refl
  first_none (p ∷ ps) h = rw (ne_eqb (key p) x (h 0 0 (omega arith))) (first_none ps (All-tail HasNot p ps h))

  -- The last with the key: one that has it, and none after it has. None exactly where none has it.
  pub last_none : (ps : List ℕ) → NoneHas ps → last_with key x ps ≡ []
  unfolding last_with
  last_none [] h = refl
  last_none (p ∷ ps) h = rw (last_none ps (All-tail HasNot p ps h), ne_eqb (key p) x (h 0 0 (omega arith)))

  pub last_is : (ps : List ℕ) (p : ℕ) (qs : List ℕ) → key p ≡ x → NoneHas qs → last_with key x (ps ++ (p ∷ qs)) ≡ p ∷ []
  unfolding last_with
  last_is ps p qs e h = rw (last_append ps (p ∷ qs), last_none qs h, eq-eqb (key p) x e)

  pub last_only : (ps : List ℕ) → last_with key x ps ≡ [] → NoneHas ps
  unfolding last_with
  last_only [] e = All-nil HasNot
  last_only (p ∷ ps) e = by (last_with key x ps) (eqb (key p) x) (last_only ps) (eqb-false (key p) x) e
    where
      by : (later : List ℕ) (t : Bool) → (later ≡ [] → NoneHas ps) → (t ≡ false → key p ≡ x → ⊥)
          → one_of later (pick t (p ∷ []) []) ≡ [] → NoneHas (p ∷ ps)
      by [] false rest not e = All-cons HasNot p ps (not refl) (rest refl)
      by [] true rest not e = absurd (cons≢nil e)
      by (q ∷ qs) t rest not e = absurd (cons≢nil e)

  -- What it has: the key, and what all have.
  pub last_has : (P Q : ℕ → Type 0) (ps : List ℕ) → ((p : ℕ) → P p → key p ≡ x → Q p) → All P ps → All Q (last_with key x ps)
  unfolding last_with
  last_has P Q [] f h = All-nil Q
  last_has P Q (p ∷ ps) f h =
      all_one Q (last_with key x ps) (if_key key x p)
      (last_has P Q ps f (All-tail P p ps h))
      (all_pick Q p (eqb (key p) x) (λ e. f p (h 0 0 (omega arith)) (eqb-true (key p) x e)))

  pub last_one : (ps : List ℕ) → AtMostOne (last_with key x ps)
  unfolding last_with
  last_one [] = no_place
  last_one (p ∷ ps) = most_one (last_one ps) (by (eqb (key p) x))
    where
      by : (t : Bool) → AtMostOne (pick t (p ∷ []) [])
      by true = one_place p
      by false = no_place

  -- b is the first of the n numbers from i on whose key is not below x; i + n where there is none.
  pub record IsBound (n i b : ℕ) : Type 0 where
    pub from : i ≤ b
    pub most : b ≤ i + n
    pub below : (j : ℕ) → i ≤ j → j < b → key j < x
    pub reached : b < i + n → x ≤ key b

  pub bound_from_lem : (n i : ℕ) → IsBound n i (bound_from key x n i)
  unfolding bound_from
  bound_from_lem zero i = record { from = omega arith; most = omega arith; below = λ j l m. absurd (omega arith); reached = λ l. absurd (omega arith) }
  bound_from_lem (suc n) i = by (ltb (key i) x) (ltb-true (key i) x) (ltb-false (key i) x) (bound_from_lem n (i + 1))
    where
      by : (t : Bool) → (t ≡ true → key i < x) → (t ≡ false → x ≤ key i) → IsBound n (i + 1) (bound_from key x n (i + 1))
          → IsBound (suc n) i (pick t (bound_from key x n (i + 1)) i)
      by false under not r =
          record { from = omega arith; most = omega arith; below = λ j l m. absurd (omega arith); reached = λ l. not refl }
      by true under not r =
          record {
            from = omega (arith, r.from);
            most = omega (arith, r.most);
            below = λ j l m. ⊎_elim (λ (k : i < j). r.below j (omega arith) m) (λ (k : j ≤ i). let e : j ≡ i = omega arith in rw e (under refl)) (cases_lt i j);
            reached = λ l. r.reached (omega arith);
          }

-- A list of places that never falls in key.
pub data Rising (key : ℕ → ℕ) : List ℕ → Type 0 where
  rises_none : Rising key []
  rises_more : {p : ℕ} {ps : List ℕ} → All (λ q. key p ≤ key q) ps → Rising key ps → Rising key (p ∷ ps)

module _ (key : ℕ → ℕ) where
  -- By its neighbours.
  pub rising_from : (ps : List ℕ) → ((i : ℕ) → i + 1 < length ps → key (get_or ps i 0) ≤ key (get_or ps (i + 1) 0)) → Rising key ps
  rising_from [] h = rises_none
  rising_from (p ∷ ps) h =
      rises_more (All-from_get_or (λ q. key p ≤ key q) ps 0 up) (rising_from ps (λ i l. rw suc-add at (h (suc i) (omega arith))))
    where
      up : (i : ℕ) → i < length ps → key p ≤ key (get_or ps i 0)
      up zero l = h 0 (omega arith)
      up (suc i) l = omega (arith, up i (omega arith), rw add-one at (h (suc i) (omega arith)))

  -- What a place in it says of both its sides.
  pub record Split (ps : List ℕ) (r : ℕ) (qs : List ℕ) : Type 0 where
    pub left : Rising key ps
    pub below : All (λ p. key p ≤ key r) ps
    pub above : All (λ q. key r ≤ key q) qs
    pub right : Rising key qs

  pub split : (ps : List ℕ) (r : ℕ) (qs : List ℕ) → Rising key (ps ++ (r ∷ qs)) → Split ps r qs
  split [] r qs (rises_more h hs) = record { left = rises_none; below = All-nil (λ p. key p ≤ key r); above = h; right = hs }
  split (p ∷ ps) r qs (rises_more h hs) =
      let s = split ps r qs hs in
      let a = all_apart (λ q. key p ≤ key q) ps (r ∷ qs) h in
      record { left = rises_more a.0 s.left; below = All-cons (λ p. key p ≤ key r) p ps (a.1 0 0 (omega arith)) s.below; above = s.above; right = s.right }

  -- The first with a key that is above that of a place is after it; one that is not, up to it.
  module _ (x : ℕ) (ps : List ℕ) (r : ℕ) (qs : List ℕ) (h : Rising key (ps ++ (r ∷ qs))) where
    pub first_after : key r < x → first_with key x (ps ++ (r ∷ qs)) ≡ first_with key x qs
    unfolding first_with
    first_after l =
        let none = first_none key x ps (All-weaker (λ p. key p ≤ key r) (HasNot key x) (λ p u e. omega arith) ps (split ps r qs h).below) in
        rw (first_append key x ps (r ∷ qs), none, ne_eqb (key r) x (λ e. omega arith))

    pub first_up_to : x ≤ key r → first_with key x (ps ++ (r ∷ qs)) ≡ one_of (first_with key x ps) (if_key key x r)
    unfolding first_with
    first_up_to l = rw (first_append key x ps (r ∷ qs)) (ap (one_of (first_with key x ps)) (by (eqb (key r) x) (eqb-false (key r) x)))
      where
        by : (t : Bool) → (t ≡ false → key r ≡ x → ⊥) → one_of (pick t (r ∷ []) []) (first_with key x qs) ≡ pick t (r ∷ []) []
        by true not = refl
        by false not = first_none key x qs (All-weaker (λ q. key r ≤ key q) (HasNot key x) (λ q u e. not refl (omega arith)) qs (split ps r qs h).above)
