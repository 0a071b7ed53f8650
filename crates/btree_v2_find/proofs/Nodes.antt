-- A node on the descent and the child taken in it: in a sound tree every node on the descent passes; and where the tree's places never fall
-- in key, the last bounding record with a key is the first record with it.
use mathlib.Core.Path.{◌≡◌, refl, ap, ◌∙◌}
use mathlib.Core.Logic.{⊎_elim}
use mathlib.Core.Bool.{false}
use mathlib.Core.List.{List, [], ◌∷◌, append-nil}
use Prim.Native.Nat.{ℕ, zero, suc, ◌+◌, ◌≤◌, ◌<◌}
use native.Mathlib.Nat.{zero-add}
use native.Mathlib.Omega.{arith}
use lib.Dec.{ltb}
use borrow.Author.Tests.{lt-ltb, le-ltb}
use Rattle.std.proofs.lemmas.Bool.{cases_lt}
use Rattle.numbers.specs.Numbers.{pick}
use Rattle.refusal.specs.Answer.{accepted}
use Rattle.node_info.specs.declared.Geometry.{Geometry}
use Rattle.field.specs.declared.Field.{Field}
use Rattle.field.specs.Field.{number_at}
use Rattle.btree_v2_collect.specs.Walk.{Tests, record_place}
use Rattle.btree_v2_collect.specs.InFile.{at_child, tree_at, places_from, children_places, places_at, ChildSound, Sound}
use Rattle.btree_v2_collect.proofs.InFile.{between_kids, child_sound}
use Rattle.btree_v2_find.specs.Find.{one_of, bound_from, last_with, bound, bounding, descent}
use Rattle.btree_v2_find.proofs.Keys.{first_with, one_nil, last_append, bound_from_lem, Rising, split, first_after, first_up_to}

module _ (file : List ℕ) (g : Geometry) (f : Field) (x : ℕ) where
  abbrev key : ℕ → ℕ
  key = number_at file f

  module _ (a : ℕ) where
    -- The key of record i of the node at a, the record that bounds among its m records from record i on, and its place where there is one.
    abbrev key_at : ℕ → ℕ
    key_at i = key (record_place g a i)

    abbrev taken : ℕ → ℕ → ℕ
    taken m i = bound_from key_at x m i

    abbrev bounding_from : ℕ → ℕ → List ℕ
    bounding_from m i = pick (ltb (taken m i) (i + m)) (record_place g a (taken m i) ∷ []) []

    -- Before record bound every record has a key below x; and record bound has not, where there is one.
    pub record Bounds (n b : ℕ) : Type 0 where
      pub most : b ≤ n
      pub below : (i : ℕ) → i < b → key_at i < x
      pub reached : b < n → x ≤ key_at b

    pub bound_is : (n : ℕ) → Bounds n (bound file g f x a n)
    unfolding bound
    bound_is n =
        let r = bound_from_lem key_at x n 0 in
        record { most = omega (arith, r.most); below = λ i l. r.below i (omega arith) l; reached = λ l. r.reached (omega arith) }

    bounding_is : (n : ℕ) → bounding_from n 0 ≡ bounding file g f x a n
    unfolding bounding bound
    bounding_is n = rw zero-add

    -- A leaf's places are those of a node whose children have none.
    leaf_places : (n m i : ℕ) → places_from file g m (record_place g a i) ≡ children_places file g 0 a n (λ b k. []) m i
    unfolding places_from children_places
    leaf_places n zero i = refl
    leaf_places n (suc m) i =
        let e : record_place g a i + g.record_size ≡ record_place g a (i + 1) = omega arith in rw (e, leaf_places n m (i + 1))

    -- The first with the key among child i, m more and the records between them: in the child taken, else the bounding record.
    module _ (d n : ℕ) (places : ℕ → ℕ → List ℕ) where
      abbrev places_of_child : ℕ → List ℕ
      places_of_child = at_child file g places d a n

      abbrev places_from_child : ℕ → ℕ → List ℕ
      places_from_child = children_places file g d a n places

      record Taken (m i : ℕ) : Type 0 where
        first : first_with key x (places_from_child m i) ≡ one_of (first_with key x (places_of_child (taken m i))) (last_with key x (bounding_from m i))
        rising : Rising key (places_of_child (taken m i))

      child_taken : (m i : ℕ) → Rising key (places_from_child m i) → Taken m i
      unfolding children_places bound_from last_with
      child_taken zero i h =
          let none : ltb i (i + 0) ≡ false = le-ltb i (i + 0) (omega arith) in
          record { first = rw none (one_nil (first_with key x (places_of_child i))); rising = h }
      child_taken (suc m) i h =
          let rest = places_from_child m (i + 1) in
          let s = split key (places_of_child i) (record_place g a i) rest h in
          ⊎_elim
          (λ (l : key_at i < x).
          let t = child_taken m (i + 1) s.right in
          let e : i + suc m ≡ i + 1 + m = omega arith in
          record {
            first = first_after key x (places_of_child i) (record_place g a i) rest h l ∙ rw (lt-ltb (key_at i) x l, e) t.first;
            rising = rw (lt-ltb (key_at i) x l) t.rising;
          })
          (λ (l : x ≤ key_at i).
          record {
            first = first_up_to key x (places_of_child i) (record_place g a i) rest h l ∙ rw (le-ltb (key_at i) x l, lt-ltb i (i + suc m) (omega arith));
            rising = rw (le-ltb (key_at i) x l) s.left;
          })
          (cases_lt (key_at i) x)

  -- Down from a node whose tree is sound: its test passes, and the tree of the child taken is sound.
  module _ (tests : Tests) where
    abbrev SoundAt : ℕ → ℕ → ℕ → Type 0
    SoundAt d a n = Sound file g tests d (tree_at file g d a n) a

    record Passes (d a n : ℕ) : Type 0 where
      node : tests.internal d a n ≡ accepted []
      child : let i = bound file g f x a n in ChildSound file g tests d a n (Sound file g tests d) (at_child file g (tree_at file g d) d a n i) i

    passes : (d a n : ℕ) → SoundAt (suc d) a n → Passes d a n
    unfolding tree_at
    passes d a n sound =
        let s = rw (between_kids file g d a n (tree_at file g d) n 0) at sound in
        record { node = s.0.passes; child = rw zero-add at (child_sound file g tests d a n n 0 s.1 _ (bound_is a n).most) }

    -- So every node on the descent passes, whatever the order of the keys.
    pub descends : (d a n : ℕ) → SoundAt d a n → (descent file g f x tests d a n).ends ≡ accepted []
    unfolding descent tree_at
    descends zero a n sound = rw sound.passes
    descends (suc d) a n sound = let s = passes d a n sound in rw s.node (descends d _ _ s.child.node)

    -- Where the places never fall in key, the last bounding record with a key is the first record with it.
    pub last_first : (d a n : ℕ) → SoundAt d a n → Rising key (places_at file g d a n)
        → last_with key x (descent file g f x tests d a n).bounds ≡ first_with key x (places_at file g d a n)
    unfolding descent places_at tree_at bound first_with
    last_first zero a n sound rising =
        let e : a + 6 ≡ record_place g a 0 = omega arith in
        let places = ap (places_from file g n) e ∙ leaf_places a n n 0 in
        let t = child_taken a 0 n (λ b k. []) n 0 (rw places at rising) in
        rw (sound.passes, places, t.first, ← bounding_is a n, append-nil)
    last_first (suc d) a n sound rising =
        let s = passes d a n sound in
        let t = child_taken a d n (places_at file g d) n 0 rising in
        let down = last_first d _ _ s.child.node t.rising in
        rw (s.node, last_append key x (bounding file g f x a n) _, down, t.first, ← bounding_is a n)
