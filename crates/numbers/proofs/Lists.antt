-- Laws of a part of a list, and of a buffer in which bytes were put at a place.
use mathlib.Core.Path.{◌≡◌, refl, ◌∙◌}
use mathlib.Core.List.{List, [], ◌∷◌, ◌++◌, append_assoc, append-nil}
use Prim.Native.Nat.{ℕ, suc, ◌+◌, ◌-◌, ◌≤◌, ◌<◌}
use native.Mathlib.Nat.{add_assoc, add-zero, zero-add}
use native.Mathlib.Numerals.{add-one}
use native.Mathlib.Omega.{arith}
use lib.ListN.{length, get_or, take, drop, set, length-append, length-take, length-drop, take-append-drop, drop_of_length-le}
use lib.Seq.{length-take-le, take_all, take-nil, drop-cons, take-append_seam, drop-append_seam, take-take, drop-drop, take-add, get_or-take, get_or-drop, set_split, take_at, drop_at}
use borrow.Author.Tests.{le-leb, lt-leb}
use Rattle.std.proofs.lemmas.List.{drop-take}
use Rattle.numbers.specs.Numbers.{part}
use Rattle.numbers.specs.Places.{stored, put}

module _ {A : Type 0} where
  -- The length of a part that is within the list, and its elements.
  pub length_part : (l : List A) (p w : ℕ) → p + w ≤ length l → length (part l p w) ≡ w
  length_part l p w h = simp (length-take, length-drop) (omega arith)

  pub get_d_part : (l : List A) (p w i : ℕ) (d : A) → i < w → get_or (part l p w) i d ≡ get_or l (p + i) d
  get_d_part l p w i d h = rw (get_or-take w (drop p l) i d h, get_or-drop)

  -- One element and the rest.
  pub part_cons : (l : List A) (p w : ℕ) (d : A) → p < length l → part l p (suc w) ≡ get_or l p d ∷ part l (p + 1) w
  part_cons l p w d h = rw (drop-cons l p d h, add-one)

  -- A part and the one after it.
  pub part_add : (l : List A) (p w v : ℕ) → part l p w ++ part l (p + w) v ≡ part l p (w + v)
  part_add l p w v = rw (take-add, drop-drop)

  -- A part of a front, of what follows a place, of a part, and of either side of ++.
  pub part_take : (l : List A) (n q v : ℕ) → q + v ≤ n → part (take n l) q v ≡ part l q v
  part_take l n q v h =
      let e : n ≡ q + (n - q) = omega arith in
      let le : v ≤ n - q = omega arith in rw (e, drop-take, take-take v (n - q) (drop q l) le)

  pub part_drop : (l : List A) (k p w : ℕ) → part (drop k l) p w ≡ part l (k + p) w
  part_drop l k p w = rw drop-drop

  pub part_part : (l : List A) (p w q v : ℕ) → q + v ≤ w → part (part l p w) q v ≡ part l (p + q) v
  part_part l p w q v h = part_take (drop p l) w q v h ∙ part_drop l p q v

  pub part_past : (l : List A) (p w : ℕ) → length l ≤ p → part l p w ≡ []
  part_past l p w h = rw (drop_of_length-le l h, take-nil)

  pub part_rest : (l : List A) (p w : ℕ) → length l ≤ p + w → part l p w ≡ drop p l
  part_rest l p w h = take_all w (drop p l) (simp length-drop (omega arith))

module _ {A : Type 0} where
  -- What `stored` is, for rw.
  pub stored_is : (o : List A) (p : ℕ) (b : List A) → stored o p b ≡ take p o ++ (b ++ drop (p + length b) o)
  unfolding stored
  stored_is o p b = refl

  -- Nothing stored; all; one element.
  pub stored_nil : (o : List A) (p : ℕ) → stored o p [] ≡ o
  stored_nil o p = rw (stored_is, add-zero, take-append-drop)

  pub stored_whole : (o b : List A) → length o ≤ length b → stored o 0 b ≡ b
  stored_whole o b h = rw (stored_is, zero-add, drop_of_length-le o h, append-nil)

  pub stored_one : (o : List A) (p : ℕ) (x : A) → p < length o → set o p x ≡ stored o p (x ∷ [])
  stored_one o p x h = rw (stored_is, set_split o p x h, add-one)

  pub length_stored : (o : List A) (p : ℕ) (b : List A) → p + length b ≤ length o → length (stored o p b) ≡ length o
  length_stored o p b h = rw stored_is (simp (length-append, length-take, length-drop) (omega arith))

  module _ (o : List A) (p : ℕ) (b : List A) (h : p ≤ length o) where
    -- What stands before, at and after the place.
    pub take_stored : take p (stored o p b) ≡ take p o
    take_stored = rw (stored_is, take_at (take p o) (b ++ drop (p + length b) o) p (length-take-le p o h))

    from : drop p (stored o p b) ≡ b ++ drop (p + length b) o
    from = rw (stored_is, drop_at (take p o) (b ++ drop (p + length b) o) p (length-take-le p o h))

    pub part_stored : part (stored o p b) p (length b) ≡ b
    part_stored = rw (from, take-append_seam)

    pub take_stored_end : take (p + length b) (stored o p b) ≡ take p o ++ b
    take_stored_end = rw (take-add, take_stored, part_stored)

    pub drop_stored_end : drop (p + length b) (stored o p b) ≡ drop (p + length b) o
    drop_stored_end = rw (← drop-drop (length b) p (stored o p b), from, drop-append_seam)

    -- Storing c right after b is storing b ++ c; then the same for one element.
    pub stored_append : (c : List A) → stored (stored o p b) (p + length b) c ≡ stored o p (b ++ c)
    stored_append c =
        rw (stored_is (stored o p b) (p + length b) c, stored_is o p (b ++ c), take_stored_end, ← drop-drop (length c) (p + length b) (stored o p b), drop_stored_end, drop-drop, length-append, ← add_assoc)
        (simp append_assoc)

  pub stored_snoc : (o : List A) (p : ℕ) (b : List A) (x : A) → p + length b < length o
      → set (stored o p b) (p + length b) x ≡ stored o p (b ++ (x ∷ []))
  stored_snoc o p b x h =
      rw (stored_one (stored o p b) (p + length b) x (rw (length_stored o p b (omega arith)) h), stored_append o p b (omega arith) (x ∷ []))

  -- Stored in what follows a place.
  pub stored_drop : (o : List A) (k p : ℕ) (b : List A) → take k o ++ stored (drop k o) p b ≡ stored o (k + p) b
  stored_drop o k p b = rw (stored_is (drop k o) p b, stored_is o (k + p) b, take-add, drop-drop, append_assoc, add_assoc)

  -- Where b fits it is stored, else nothing changes.
  pub put_fits : (o : List A) (p : ℕ) (b : List A) → p + length b ≤ length o → put o p b ≡ stored o p b
  unfolding put
  put_fits o p b h = rw (le-leb (p + length b) (length o) h)

  pub put_not : (o : List A) (p : ℕ) (b : List A) → length o < p + length b → put o p b ≡ o
  unfolding put
  put_not o p b h = rw (lt-leb (p + length b) (length o) h)
