-- The bytes of a header, a leaf, an internal node and a whole tree: from the HDF5 File Format Specification, "Version 2 B-trees"; how nodes
-- are numbered and placed, and the zeros after a node, from document 01, "Header and node image".
use Rattle.std.specs.Prelude.{ℕ, zero, suc, ◌+◌, ◌-◌, ◌*◌, List, [], ◌∷◌, ◌++◌, length, replicate}
use Rattle.checksum.specs.Lookup3.{lookup3}
use Rattle.numbers.specs.Numbers.{le, part}
use Rattle.node_info.specs.declared.Geometry.{Geometry}
use Rattle.node_info.specs.Capacity.{count_width, total_width}
use Rattle.plan.specs.Tree.{Kids, last, more, Tree, count, size, below, nodes}
use Rattle.format.specs.declared.Request.{Request}

-- The signatures `BTHD`, `BTLF` and `BTIN`.
abbrev pub header_signature : List ℕ
header_signature = 66 ∷ 84 ∷ 72 ∷ 68 ∷ []

abbrev pub leaf_signature : List ℕ
leaf_signature = 66 ∷ 84 ∷ 76 ∷ 70 ∷ []

abbrev pub internal_signature : List ℕ
internal_signature = 66 ∷ 84 ∷ 73 ∷ 78 ∷ []

-- The bytes of a node before its records: signature, version, type.
abbrev pub prefix_size : ℕ
prefix_size = 6

-- The place in a node where n records of rs bytes end.
abbrev pub records_end : ℕ → ℕ → ℕ
records_end rs n = prefix_size + n * rs

-- The bytes of a header with offsets and lengths of these sizes.
abbrev pub header_size : ℕ → ℕ → ℕ
header_size ow lw = 22 + ow + lw

-- Bytes with their checksum after them.
unfoldable pub summed : List ℕ → List ℕ
summed b = b ++ le 4 (lookup3 b)

-- A node's bytes with its checksum, and zeros to the node size.
unfoldable pub padded : ℕ → List ℕ → List ℕ
padded ns b = summed b ++ replicate (ns - length (summed b)) 0

-- The bytes of a pointer to a child of level d: address, record count, and total where its width is not 0.
unfoldable pub pointer_bytes : Geometry → ℕ → ℕ → ℕ → ℕ → List ℕ
pointer_bytes g d address records total =
    le g.offset_size address ++ (le (count_width g) records ++ le (total_width g d) total)

-- The address of node j of a write.
unfoldable pub address : Request → ℕ → ℕ
address q j = q.start + j * q.geometry.node_size

module _ (q : Request) where
  -- The pointer to a subtree of depth d whose first node is node j.
  unfoldable pub pointer : (d : ℕ) → Tree d → ℕ → List ℕ
  pointer d t j = pointer_bytes q.geometry d (address q (j + below d t)) (count d t) (size d t)

  -- The pointers to the children, of depth d; the first node below is node j.
  unfoldable pub pointers : (d : ℕ) → Kids (Tree d) → ℕ → List ℕ
  pointers d (last t) j = pointer d t j
  pointers d (more t ts) j = pointer d t j ++ pointers d ts (j + nodes d t)

-- The nodes of a write of the records recs.
module _ (q : Request) (recs : List ℕ) where
  -- Records r to r + n - 1 of the list.
  unfoldable pub record_range : ℕ → ℕ → List ℕ
  record_range r n = part recs (r * q.geometry.record_size) (n * q.geometry.record_size)

  -- A leaf of n records, the first of them record r.
  unfoldable pub leaf_bytes : ℕ → ℕ → List ℕ
  leaf_bytes n r = leaf_signature ++ (0 ∷ q.tree_type ∷ record_range r n)

  -- The node's own records; the first record below is record r.
  unfoldable pub own_records : (d : ℕ) → Kids (Tree d) → ℕ → List ℕ
  own_records d (last t) r = []
  own_records d (more t ts) r = record_range (r + size d t) 1 ++ own_records d ts (r + size d t + 1)

  -- An internal node whose children have depth d; its first node below is node j, its first record below record r.
  unfoldable pub internal_bytes : (d : ℕ) → Kids (Tree d) → ℕ → ℕ → List ℕ
  internal_bytes d ts j r = internal_signature ++ (0 ∷ q.tree_type ∷ (own_records d ts r ++ pointers q d ts j))

  -- The nodes of the children, one child after another, each made by f.
  unfoldable pub kids_image : (d : ℕ) → (Tree d → ℕ → ℕ → List ℕ) → Kids (Tree d) → ℕ → ℕ → List ℕ
  kids_image d f (last t) j r = f t j r
  kids_image d f (more t ts) j r = f t j r ++ kids_image d f ts (j + nodes d t) (r + size d t + 1)

  -- The nodes of a tree, children first, its root last; the first node is node j, the first record record r.
  unfoldable pub image : (d : ℕ) → Tree d → ℕ → ℕ → List ℕ
  image zero n j r = padded q.geometry.node_size (leaf_bytes n r)
  image (suc d) ts j r = kids_image d (image d) ts j r ++ padded q.geometry.node_size (internal_bytes d ts j r)

-- The header's bytes: split percent 100, merge percent 40.
unfoldable pub header_bytes : Request → ℕ → ℕ → ℕ → ℕ → List ℕ
header_bytes q depth root root_records n =
    summed
    (header_signature
    ++ (0
    ∷ q.tree_type
    ∷ (le 4 q.geometry.node_size
    ++ (le 2 q.geometry.record_size
    ++ (le 2 depth
    ++ (100 ∷ 40 ∷ (le q.geometry.offset_size root ++ (le 2 root_records ++ le q.length_size n))))))))
