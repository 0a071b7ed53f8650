-- A tree in a file: the tree that a file holds by its pointers alone, whatever its nodes are, and the places of its records; the bytes of a
-- tree's records; and a tree whose nodes pass their tests. Neither output nor counts nor a refusal stands here.
use Rattle.std.specs.Prelude.{◌≡◌, List, [], ◌∷◌, ◌++◌, ℕ, zero, suc, ◌+◌, ◌*◌, ◌≤◌, length}
use Rattle.numbers.specs.Numbers.{part}
use Rattle.refusal.specs.Answer.{Answer, accepted}
use Rattle.plan.specs.Tree.{Kids, last, more, Tree, between, count, size}
use Rattle.node_info.specs.declared.Geometry.{Geometry}
use Rattle.format.specs.Bytes.{prefix_size}
use Rattle.btree_v2_collect.specs.Walk.{Tests, record_place, pointer_to, address_in, records_in}

module _ (file : List ℕ) (g : Geometry) where
  -- f of the address and the record count of child i of the internal node at a with n records whose children have level d.
  abbrev pub at_child : {A : Type 0} → (ℕ → ℕ → A) → (d a n i : ℕ) → A
  at_child f d a n i = let p = pointer_to g d a n i in f (address_in file g p) (records_in file g p)

  -- Its child i and m more, each by `node`.
  unfoldable pub kids_at : (d a n : ℕ) → (ℕ → ℕ → Tree d) → ℕ → ℕ → Kids (Tree d)
  kids_at d a n node zero i = last (at_child node d a n i)
  kids_at d a n node (suc m) i = more (at_child node d a n i) (kids_at d a n node m (i + 1))

  -- The tree whose root is the node of level d at a with n records.
  unfoldable pub tree_at : (d : ℕ) → ℕ → ℕ → Tree d
  tree_at zero a n = n
  tree_at (suc d) a n = kids_at d a n (tree_at d) n 0

  -- The places of n records from place p on.
  unfoldable pub places_from : ℕ → ℕ → List ℕ
  places_from zero p = []
  places_from (suc n) p = p ∷ places_from n (p + g.record_size)

  -- Those of child i and m more, each by `places`, and of the node's own records between them.
  unfoldable pub children_places : (d a n : ℕ) → (ℕ → ℕ → List ℕ) → ℕ → ℕ → List ℕ
  children_places d a n places zero i = at_child places d a n i
  children_places d a n places (suc m) i =
      at_child places d a n i ++ (record_place g a i ∷ children_places d a n places m (i + 1))

  -- The places of the tree's records, in the order of collecting.
  unfoldable pub places_at : ℕ → ℕ → ℕ → List ℕ
  places_at zero a n = places_from n (a + prefix_size)
  places_at (suc d) a n = children_places d a n (places_at d) n 0

  -- The bytes of the records at these places, one after another.
  unfoldable pub records_at : List ℕ → List ℕ
  records_at [] = []
  records_at (p ∷ ps) = part file p g.record_size ++ records_at ps

  -- The records' bytes of a tree whose root is at a: those of the children from child i on and of the node's own records between them.
  module _ (d a n : ℕ) (bytes : Tree d → ℕ → List ℕ) where
    unfoldable pub children_bytes : Kids (Tree d) → ℕ → List ℕ
    children_bytes (last t) i = bytes t (address_in file g (pointer_to g d a n i))
    children_bytes (more t ts) i =
        bytes t (address_in file g (pointer_to g d a n i)) ++ (part file (record_place g a i) g.record_size ++ children_bytes ts (i + 1))

  unfoldable pub tree_bytes : (d : ℕ) → Tree d → ℕ → List ℕ
  tree_bytes zero n a = part file (a + prefix_size) (n * g.record_size)
  tree_bytes (suc d) ts a = children_bytes d a (between ts) (tree_bytes d) ts 0

-- Every node passes its tests and its records are there, and every pointer leads to its child.
module _ (file : List ℕ) (g : Geometry) (tests : Tests) where
  pub record NodeSound (answer : Answer) (a n : ℕ) : Type 0 where
    pub passes : answer ≡ accepted []
    pub there : record_place g a n ≤ length file

  module _ (d a n : ℕ) (sound : Tree d → ℕ → Type 0) where
    pub record ChildSound (t : Tree d) (i : ℕ) : Type 0 where
      pub records : records_in file g (pointer_to g d a n i) ≡ count d t
      pub node : sound t (address_in file g (pointer_to g d a n i))
      pub after : tests.child d (pointer_to g d a n i) (size d t) ≡ accepted []

    abbrev pub ChildrenSound : Kids (Tree d) → ℕ → Type 0
    ChildrenSound (last t) i = ChildSound t i
    ChildrenSound (more t ts) i = ChildSound t i × ChildrenSound ts (i + 1)

  -- The tree t, its root at a.
  abbrev pub Sound : (d : ℕ) → Tree d → ℕ → Type 0
  Sound zero n a = NodeSound (tests.leaf a n) a n
  Sound (suc d) ts a =
      NodeSound (tests.internal d a (between ts)) a (between ts) × ChildrenSound d a (between ts) (Sound d) ts 0
