-- A tree by its numbers of records alone. The depth is in the type: every leaf lies at one depth and every internal node has one child
-- more than records. From the HDF5 File Format Specification, "Version 2 B-trees".
use Rattle.std.specs.Prelude.{ℕ, zero, suc, ◌+◌}

-- The children of an internal node, in order; a record stands between each two.
pub data Kids (A : Type 0) : Type 0 where
  last : A → Kids A
  more : A → Kids A → Kids A

-- The sum of f over the children.
unfoldable pub sum_kids : {A : Type 0} → (A → ℕ) → Kids A → ℕ
sum_kids f (last t) = f t
sum_kids f (more t ts) = f t + sum_kids f ts

-- The node's own records.
unfoldable pub between : {A : Type 0} → Kids A → ℕ
between (last t) = 0
between (more t ts) = suc (between ts)

-- A tree of depth d: a leaf is its number of records.
abbrev pub Tree : ℕ → Type 0
Tree zero = ℕ
Tree (suc d) = Kids (Tree d)

-- The root's own records.
unfoldable pub count : (d : ℕ) → Tree d → ℕ
count zero n = n
count (suc d) ts = between ts

-- All records.
unfoldable pub size : (d : ℕ) → Tree d → ℕ
size zero n = n
size (suc d) ts = sum_kids (size d) ts + between ts

-- The nodes under the root.
unfoldable pub below : (d : ℕ) → Tree d → ℕ
below zero n = 0
below (suc d) ts = sum_kids (λ t. below d t + 1) ts

-- All nodes.
unfoldable pub nodes : (d : ℕ) → Tree d → ℕ
nodes d t = below d t + 1

unfoldable pub leaves : (d : ℕ) → Tree d → ℕ
leaves zero n = 1
leaves (suc d) ts = sum_kids (leaves d) ts

unfoldable pub internals : (d : ℕ) → Tree d → ℕ
internals zero n = 0
internals (suc d) ts = sum_kids (internals d) ts + 1

-- The records in internal nodes.
unfoldable pub internal_records : (d : ℕ) → Tree d → ℕ
internal_records zero n = 0
internal_records (suc d) ts = sum_kids (internal_records d) ts + between ts

-- Every child has the property.
abbrev pub AllKids : {A : Type 0} → (A → Type 0) → Kids A → Type 0
AllKids P (last t) = P t
AllKids P (more t ts) = P t × AllKids P ts

-- The property holds at every node; it is told the node's level and the subtree.
abbrev pub Everywhere : ((u : ℕ) → Tree u → Type 0) → (d : ℕ) → Tree d → Type 0
Everywhere P zero n = P zero n
Everywhere P (suc d) ts = P (suc d) ts × AllKids (Everywhere P d) ts
