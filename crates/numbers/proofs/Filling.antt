-- A buffer that is filled field after field, up to a number of fields: what is put is final, and the rest is as it was.
use mathlib.Core.Path.{◌≡◌, refl, sym, ap, ◌∙◌}
use mathlib.Core.Logic.{⊎_elim}
use mathlib.Core.List.{List, [], ◌∷◌, ◌++◌, append_assoc, append-nil}
use Prim.Native.Nat.{ℕ, ◌+◌, ◌-◌, ◌≤◌, ◌<◌}
use native.Mathlib.Nat.{zero-add}
use native.Mathlib.Omega.{arith}
use Rattle.std.proofs.Common.{zero-le}
use lib.ListN.{length, take, drop, length-append, take-append-drop}
use lib.Seq.{take_all, take-append-le, take-append-add, take-append_seam, drop-append_seam, take-add}
use Rattle.std.proofs.lemmas.Bool.{cases_lt}
use Rattle.numbers.specs.Places.{stored, over, joined, filled_to}
use Rattle.numbers.proofs.Lists.{stored_nil, stored_append, length_stored}
use Rattle.numbers.proofs.Copying.{over_stored}

pub joined_append : (a b : List (List ℕ)) → joined (a ++ b) ≡ joined a ++ joined b
unfolding joined
joined_append [] b = refl
joined_append (x ∷ a) b = rw (joined_append a b) (sym (append_assoc x (joined a) (joined b)))

pub joined_one : (b : List ℕ) → joined (b ∷ []) ≡ b
unfolding joined
joined_one b = append-nil b

joined_nil : joined [] ≡ []
unfolding joined
joined_nil = refl

-- A front of the fields, and the others.
pub joined_split : (k : ℕ) (fields : List (List ℕ)) → joined fields ≡ joined (take k fields) ++ joined (drop k fields)
joined_split k fields = rw (← joined_append, take-append-drop)

pub joined_shorter : (k : ℕ) (fields : List (List ℕ)) → length (joined (take k fields)) ≤ length (joined fields)
joined_shorter k fields = rw (joined_split k fields, length-append) (omega arith)

-- What a front of fields is where all of them are in it, and where none are left.
module _ {A : Type 0} (a b : List A) (k : ℕ) where
  take_within : k ≤ length a → (take k (a ++ b) ≡ take k a) × (k - length a ≡ 0)
  take_within h = (take-append-le k a b h, omega arith)

  take_beyond : length a ≤ k → (take k (a ++ b) ≡ a ++ take (k - length a) b) × (take k a ≡ a)
  take_beyond h =
      let e : k ≡ length a + (k - length a) = omega arith in
      (ap (λ (i : ℕ). take i (a ++ b)) e ∙ take-append-add a b (k - length a), take_all k a h)

-- Fields put from p on, as many as are left of k; then others from where these end, whether or not they were put.
pub filled_turn : (o : List ℕ) (p q k : ℕ) (a b : List (List ℕ)) → p ≤ length o → q ≡ p + length (joined a)
    → stored (stored o p (joined (take k a))) q (joined (take (k - length a) b)) ≡ stored o p (joined (take k (a ++ b)))
filled_turn o p q k a b h e =
    ⊎_elim
    (λ (l : k < length a).
    let w = take_within a b k (omega arith) in rw (w.0, w.1, joined_nil, stored_nil))
    (λ (l : length a ≤ k).
    let w = take_beyond a b k l in rw (w.0, w.1, e, joined_append) (stored_append o p (joined a) h (joined (take (k - length a) b))))
    (cases_lt k (length a))

pub length_filled : (o : List ℕ) (p k : ℕ) (a : List (List ℕ)) → p + length (joined a) ≤ length o
    → length (stored o p (joined (take k a))) ≡ length o
length_filled o p k a h = length_stored o p (joined (take k a)) (omega (arith, joined_shorter k a))

-- `filled_to` is storing at the front.
pub filled_stored : (k : ℕ) (fields : List (List ℕ)) (o : List ℕ) → filled_to k fields o ≡ stored o 0 (joined (take k fields))
unfolding filled_to
filled_stored k fields o = over_stored (joined (take k fields)) o

-- The theorems on a buffer that is being filled.
module _ (fields : List (List ℕ)) (o : List ℕ) where
  -- A budget of 0 changes nothing; one of the number of fields or more puts them all.
  pub filled_none : filled_to 0 fields o ≡ o
  filled_none = rw (filled_stored, joined_nil, stored_nil)

  pub filled_all : (k : ℕ) → length fields ≤ k → filled_to k fields o ≡ over (joined fields) o
  unfolding filled_to
  filled_all k h = rw (take_all k fields h)

  module _ (k : ℕ) where
    abbrev done : ℕ
    done = length (joined (take k fields))

    -- Up to where the first k fields end, the bytes are those of the finished buffer; after that, those lent.
    pub filled_final : take done (filled_to k fields o) ≡ take done (joined fields)
    unfolding filled_to over
    filled_final =
        let front = joined (take k fields) in
        rw (take-append_seam front (drop done o)) (sym (ap (take done) (joined_split k fields) ∙ take-append_seam front (joined (drop k fields))))

    pub filled_rest : drop done (filled_to k fields o) ≡ drop done o
    unfolding filled_to over
    filled_rest = drop-append_seam (joined (take k fields)) (drop done o)

    -- One field more is put right after those, and no other byte changes.
    pub filled_next : filled_to (k + 1) fields o ≡ stored (filled_to k fields o) done (joined (take 1 (drop k fields)))
    filled_next =
        rw (filled_stored, filled_stored, take-add, joined_append)
        (sym (rw zero-add at (stored_append o 0 (joined (take k fields)) zero-le (joined (take 1 (drop k fields))))))
