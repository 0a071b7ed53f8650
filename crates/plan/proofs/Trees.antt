-- Laws of trees by their numbers of records, by induction on the depth; and laws of what holds of every child and at every node.
use mathlib.Core.Path.{◌≡◌, refl}
use Prim.Native.Nat.{ℕ, zero, suc, ◌+◌, ◌≤◌}
use native.Mathlib.Omega.{arith}
use Rattle.plan.specs.Tree.{Kids, last, more, Tree, sum_kids, between, count, size, below, nodes, leaves, internals, internal_records, AllKids, Everywhere}

module _ {A : Type 0} where
  pub all_kids : (P : A → Type 0) → ((t : A) → P t) → (ts : Kids A) → AllKids P ts
  all_kids P h (last t) = h t
  all_kids P h (more t ts) = (h t, all_kids P h ts)

  pub all_kids_map : (P Q : A → Type 0) → ((t : A) → P t → Q t) → (ts : Kids A) → AllKids P ts → AllKids Q ts
  all_kids_map P Q h (last t) p = h t p
  all_kids_map P Q h (more t ts) p = (h t p.0, all_kids_map P Q h ts p.1)

  pub all_kids_both : (P Q R : A → Type 0) → ((t : A) → P t → Q t → R t) → (ts : Kids A) → AllKids P ts → AllKids Q ts → AllKids R ts
  all_kids_both P Q R h (last t) p q = h t p q
  all_kids_both P Q R h (more t ts) p q = (h t p.0 q.0, all_kids_both P Q R h ts p.1 q.1)

  module _ (f g : A → ℕ) where
    -- Sums over the children, compared child by child.
    pub sum_kids_le : (ts : Kids A) → AllKids (λ t. f t ≤ g t) ts → sum_kids f ts ≤ sum_kids g ts
    unfolding sum_kids
    sum_kids_le (last t) p = p
    sum_kids_le (more t ts) p = omega (arith, p.0, sum_kids_le ts p.1)

    pub sum_kids_cong : (ts : Kids A) → AllKids (λ t. f t ≡ g t) ts → sum_kids f ts ≡ sum_kids g ts
    unfolding sum_kids
    sum_kids_cong (last t) p = p
    sum_kids_cong (more t ts) p = omega (arith, p.0, sum_kids_cong ts p.1)

    pub sum_kids_add : (ts : Kids A) → sum_kids (λ t. f t + g t) ts ≡ sum_kids f ts + sum_kids g ts
    unfolding sum_kids
    sum_kids_add (last t) = refl
    sum_kids_add (more t ts) = omega (arith, sum_kids_add ts)

  -- There is one child more than records between them.
  pub sum_kids_one : (ts : Kids A) → sum_kids (λ t. 1) ts ≡ between ts + 1
  unfolding sum_kids between
  sum_kids_one (last t) = refl
  sum_kids_one (more t ts) = omega (arith, sum_kids_one ts)

  pub sum_kids_more : (f : A → ℕ) (ts : Kids A) → sum_kids (λ t. f t + 1) ts ≡ sum_kids f ts + between ts + 1
  sum_kids_more f ts = omega (arith, sum_kids_add f (λ t. 1) ts, sum_kids_one ts)

-- Leaves are one more than records in internal nodes.
pub leaves_one_more : (d : ℕ) (t : Tree d) → leaves d t ≡ internal_records d t + 1
unfolding leaves internal_records
leaves_one_more zero n = refl
leaves_one_more (suc d) ts =
    omega (arith, sum_kids_cong (leaves d) (λ t. internal_records d t + 1) ts (all_kids _ (leaves_one_more d) ts), sum_kids_more (internal_records d) ts)

-- A node is a leaf or an internal node.
pub nodes_kinds : (d : ℕ) (t : Tree d) → nodes d t ≡ leaves d t + internals d t
unfolding nodes below leaves internals
nodes_kinds zero n = refl
nodes_kinds (suc d) ts =
    omega (arith, sum_kids_cong (λ t. below d t + 1) (λ t. leaves d t + internals d t) ts (all_kids _ (nodes_kinds d) ts), sum_kids_add (leaves d) (internals d) ts)

pub everywhere_root : (P : (u : ℕ) → Tree u → Type 0) (d : ℕ) (t : Tree d) → Everywhere P d t → P d t
everywhere_root P zero n e = e
everywhere_root P (suc d) ts e = e.0

pub everywhere_both : (P Q R : (u : ℕ) → Tree u → Type 0) → ((u : ℕ) (t : Tree u) → P u t → Q u t → R u t)
    → (d : ℕ) (t : Tree d) → Everywhere P d t → Everywhere Q d t → Everywhere R d t
everywhere_both P Q R h zero n p q = h zero n p q
everywhere_both P Q R h (suc d) ts p q =
    (h (suc d) ts p.0 q.0, all_kids_both _ _ _ (everywhere_both P Q R h d) ts p.1 q.1)

-- Every node of a level u holds m u records at most, and every subtree of that level c u.
abbrev pub Within : (ℕ → ℕ) → (ℕ → ℕ) → (d : ℕ) → Tree d → Type 0
Within m c = Everywhere (λ u t. (count u t ≤ m u) × (size u t ≤ c u))

-- Every node holds a record.
abbrev pub Filled : (d : ℕ) → Tree d → Type 0
Filled = Everywhere (λ u t. 1 ≤ count u t)

-- So there are no more nodes than records.
pub nodes_le_size : (d : ℕ) (t : Tree d) → Filled d t → nodes d t ≤ size d t
unfolding nodes below size count
nodes_le_size zero n h = h
nodes_le_size (suc d) ts h =
    omega (arith, h.0, sum_kids_le (λ t. below d t + 1) (size d) ts (all_kids_map _ _ (nodes_le_size d) ts h.1))

pub leaves_le_nodes : (d : ℕ) (t : Tree d) → leaves d t ≤ nodes d t
leaves_le_nodes d t = omega (arith, nodes_kinds d t)
