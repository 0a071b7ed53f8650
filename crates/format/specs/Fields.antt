-- A node as its fields in order, from the signature to the zeros after the checksum: from the HDF5 File Format Specification, once more beside
-- Bytes.antt, so that it is a theorem that they make up the same bytes. A node with its first k fields put (document 02, "Three") is `filled_to k`.
use Rattle.std.specs.Prelude.{ℕ, zero, suc, ◌+◌, ◌-◌, ◌*◌, ◌≡◌, List, [], ◌∷◌, ◌++◌, length, take, drop, replicate}
use Rattle.checksum.specs.Lookup3.{lookup3}
use Rattle.numbers.specs.Numbers.{le, part}
use Rattle.numbers.specs.Places.{joined, filled_to}
use Rattle.node_info.specs.Capacity.{count_width, total_width}
use Rattle.plan.specs.Tree.{Kids, last, more, Tree, count, size, below, nodes}
use Rattle.format.specs.Bytes.{leaf_signature, internal_signature, address}
use Rattle.format.specs.declared.Request.{Request}

-- Signature, version, type.
unfoldable pub front_fields : List ℕ → ℕ → List (List ℕ)
front_fields signature type = signature ∷ (0 ∷ []) ∷ (type ∷ []) ∷ []

-- The checksum of the bytes b, and zeros from there to the node size.
unfoldable pub end_fields : ℕ → List ℕ → List (List ℕ)
end_fields ns b = le 4 (lookup3 b) ∷ replicate (ns - (length b + 4)) 0 ∷ []

-- Fields with the checksum of all of them, and the zeros.
unfoldable pub with_end : ℕ → List (List ℕ) → List (List ℕ)
with_end ns fields = fields ++ end_fields ns (joined fields)

-- n records of rs bytes, one by one, the first of them record r.
unfoldable pub record_fields : ℕ → List ℕ → ℕ → ℕ → List (List ℕ)
record_fields rs recs zero r = []
record_fields rs recs (suc n) r = part recs (r * rs) rs ∷ record_fields rs recs n (r + 1)

module _ (q : Request) where
  -- The address, record count and total in a pointer to a subtree of depth d whose first node is node j. The total has no bytes where its
  -- width is 0.
  unfoldable pub pointer_fields : (d : ℕ) → Tree d → ℕ → List (List ℕ)
  pointer_fields d t j =
      le q.geometry.offset_size (address q (j + below d t))
      ∷ le (count_width q.geometry) (count d t)
      ∷ le (total_width q.geometry d) (size d t)
      ∷ []

  -- The pointers to the children, of depth d; the first node below is node j.
  unfoldable pub all_pointer_fields : (d : ℕ) → Kids (Tree d) → ℕ → List (List ℕ)
  all_pointer_fields d (last t) j = pointer_fields d t j
  all_pointer_fields d (more t ts) j = pointer_fields d t j ++ all_pointer_fields d ts (j + nodes d t)

-- The nodes of a write of the records recs.
module _ (q : Request) (recs : List ℕ) where
  -- A leaf of n records, the first of them record r.
  unfoldable pub leaf_fields : ℕ → ℕ → List (List ℕ)
  leaf_fields n r =
      with_end q.geometry.node_size (front_fields leaf_signature q.tree_type ++ record_fields q.geometry.record_size recs n r)

  -- An internal node's own records; the first record below is record r.
  unfoldable pub own_fields : (d : ℕ) → Kids (Tree d) → ℕ → List (List ℕ)
  own_fields d (last t) r = []
  own_fields d (more t ts) r =
      record_fields q.geometry.record_size recs 1 (r + size d t) ++ own_fields d ts (r + size d t + 1)

  -- An internal node whose children have depth d; its first node below is node j, its first record below record r.
  unfoldable pub internal_fields : (d : ℕ) → Kids (Tree d) → ℕ → ℕ → List (List ℕ)
  internal_fields d ts j r =
      with_end
      q.geometry.node_size
      (front_fields internal_signature q.tree_type ++ (own_fields d ts r ++ all_pointer_fields q d ts j))

-- Document 02, "Three", of a node whose finished bytes are `final`: where the first k of its fields were put into what was lent, the bytes up to
-- the end of these fields are final, and the rest are those lent.
pub record FinalThenLent (fields : List (List ℕ)) (final lent : List ℕ) : Type 0 where
  pub front : (k : ℕ) → let end = length (joined (take k fields)) in take end (filled_to k fields lent) ≡ take end final
  pub rest : (k : ℕ) → let end = length (joined (take k fields)) in drop end (filled_to k fields lent) ≡ drop end lent
