-- The lengths of the parts of an image.
use mathlib.Core.Path.{◌≡◌}
use mathlib.Core.List.{List, ◌++◌}
use Prim.Native.Nat.{ℕ, zero, suc, ◌+◌, ◌*◌, ◌≤◌}
use native.Mathlib.Nat.{add-mul, zero-mul}
use native.Mathlib.Omega.{arith}
use lib.ListN.{length, length-append, length-replicate}
use lib.Seq.{take_all}
use Rattle.numbers.proofs.Lists.{length_part, part_add}
use Rattle.numbers.proofs.Numbers.{le_length}
use Rattle.plan.specs.Tree.{Kids, last, more, Tree, sum_kids, between, count, size, below, nodes, AllKids, Everywhere}
use Rattle.format.specs.Bytes.{summed, padded, pointer_bytes, record_range, leaf_bytes, pointer, pointers, own_records, internal_bytes, kids_image, image}
use Rattle.node_info.specs.Capacity.{pointer_size_to}
use Rattle.format.specs.declared.Request.{Request}
use Rattle.format.specs.Fit.{Fit}

pub length_summed : (b : List ℕ) → length (summed b) ≡ length b + 4
unfolding summed
length_summed b = rw (length-append, le_length)

pub length_padded : (ns : ℕ) (b : List ℕ) → 4 + length b ≤ ns → length (padded ns b) ≡ ns
unfolding padded
length_padded ns b h = rw (length-append, length-replicate, length_summed) (omega arith)

module _ (q : Request) (d : ℕ) where
  pub length_pointer : (t : Tree d) (j : ℕ) → length (pointer q d t j) ≡ pointer_size_to q.geometry d
  unfolding pointer pointer_bytes
  length_pointer t j = simp (length-append, le_length) (omega arith)

  pub length_pointers : (ts : Kids (Tree d)) (j : ℕ) → length (pointers q d ts j) ≡ (between ts + 1) * pointer_size_to q.geometry d
  unfolding pointers between
  length_pointers (last t) j = omega (arith, length_pointer t j)
  length_pointers (more t ts) j =
      rw (length-append, length_pointer t j, length_pointers ts (j + nodes d t)) (omega arith)

module _ (q : Request) (recs : List ℕ) where
  -- There are m records from record r on.
  abbrev pub Room : ℕ → ℕ → Type 0
  Room r m = (r + m) * q.geometry.record_size ≤ length recs

  pub length_range : (r n : ℕ) → Room r n → length (record_range q recs r n) ≡ n * q.geometry.record_size
  unfolding record_range
  length_range r n h = length_part recs (r * q.geometry.record_size) (n * q.geometry.record_size) (omega arith)

  pub range_all : (n : ℕ) → length recs ≡ n * q.geometry.record_size → record_range q recs 0 n ≡ recs
  unfolding record_range
  range_all n e = rw (zero-mul, take_all (n * q.geometry.record_size) recs (omega arith))

  pub range_add : (r m n : ℕ) → record_range q recs r m ++ record_range q recs (r + m) n ≡ record_range q recs r (m + n)
  unfolding record_range
  range_add r m n = rw (add-mul r m, add-mul m n, part_add)

  pub length_leaf : (n r : ℕ) → Room r n → length (leaf_bytes q recs n r) ≡ 6 + n * q.geometry.record_size
  unfolding leaf_bytes
  length_leaf n r h = omega (arith, length_range r n h)

  module _ (d : ℕ) where
    pub length_own : (ts : Kids (Tree d)) (r : ℕ) → Room r (sum_kids (size d) ts + between ts)
        → length (own_records q recs d ts r) ≡ between ts * q.geometry.record_size
    unfolding own_records between sum_kids
    length_own (last t) r h = rw zero-mul
    length_own (more t ts) r h =
        rw (length-append, length_range (r + size d t) 1 (omega arith), length_own ts (r + size d t + 1) (omega arith)) (omega arith)

    pub length_internal : (ts : Kids (Tree d)) (j r : ℕ) → Room r (sum_kids (size d) ts + between ts)
        → length (internal_bytes q recs d ts j r) ≡ 6 + between ts * q.geometry.record_size + (between ts + 1) * pointer_size_to q.geometry d
    unfolding internal_bytes
    length_internal ts j r h =
        omega (arith, length-append (own_records q recs d ts r) (pointers q d ts j), length_own ts r h, length_pointers q d ts j)

    -- The nodes of all children, if the image of each has its length.
    pub length_children : ((t : Tree d) (j r : ℕ) → Everywhere (Fit q.geometry) d t → Room r (size d t) → length (image q recs d t j r) ≡ nodes d t * q.geometry.node_size)
        → (ts : Kids (Tree d)) (j r : ℕ) → AllKids (Everywhere (Fit q.geometry) d) ts → Room r (sum_kids (size d) ts + between ts)
        → length (kids_image q recs d (image q recs d) ts j r) ≡ sum_kids (nodes d) ts * q.geometry.node_size
    unfolding kids_image sum_kids between
    length_children each (last t) j r f h = each t j r f (omega arith)
    length_children each (more t ts) j r f h =
        rw (length-append, each t j r f.0 (omega arith), length_children each ts (j + nodes d t) (r + size d t + 1) f.1 (omega arith)) (omega arith)

  pub length_image : (d : ℕ) (t : Tree d) (j r : ℕ) → Everywhere (Fit q.geometry) d t → Room r (size d t)
      → length (image q recs d t j r) ≡ nodes d t * q.geometry.node_size
  unfolding image nodes below size count
  length_image zero n j r f h =
      rw (length_padded q.geometry.node_size (leaf_bytes q recs n r) (omega (arith, length_leaf n r h, f.node))) (omega arith)
  length_image (suc d) ts j r f h =
      rw (length-append, length_children d (length_image d) ts j r f.1 h, length_padded q.geometry.node_size (internal_bytes q recs d ts j r) (omega (arith, length_internal d ts j r h, f.0.node)))
      (omega arith)
