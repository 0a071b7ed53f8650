-- The fields of a node, joined, are its bytes; so what is put of a node that is being filled is final, and the rest is as it was.
use mathlib.Core.Path.{◌≡◌, refl, sym, ap}
use mathlib.Core.List.{List, ◌∷◌, ◌++◌, append_assoc, append-nil}
use Prim.Native.Nat.{ℕ, zero, suc, ◌+◌, ◌*◌, ◌≤◌}
use native.Mathlib.Nat.{zero-mul, suc-mul, add_comm}
use native.Mathlib.Omega.{arith}
use lib.ListN.{length}
use Rattle.numbers.specs.Numbers.{part}
use Rattle.numbers.specs.Places.{joined}
use Rattle.numbers.proofs.Lists.{part_add}
use Rattle.numbers.proofs.Filling.{joined_append, filled_final, filled_rest}
use Rattle.plan.specs.Tree.{Kids, last, more, Tree, sum_kids, between, count, size, nodes}
use Rattle.format.specs.Bytes.{summed, padded, pointer_bytes, pointer, pointers, record_range, leaf_bytes, own_records, internal_bytes}
use Rattle.format.specs.Fields.{front_fields, end_fields, with_end, record_fields, pointer_fields, all_pointer_fields, leaf_fields, own_fields, internal_fields, FinalThenLent}
use Rattle.format.specs.Fit.{Fit}
use Rattle.format.specs.declared.Request.{Request}
use Rattle.format.proofs.Lengths.{Room, length_summed, length_padded, length_leaf, length_internal}

-- A node's contents with their end are the node.
pub end_joined : (ns : ℕ) (fields : List (List ℕ)) → joined (with_end ns fields) ≡ padded ns (joined fields)
unfolding with_end end_fields padded joined summed
end_joined ns fields =
    rw (joined_append fields (end_fields ns (joined fields)), length_summed, append-nil) (sym (append_assoc (joined fields) _ _))

-- What is final and what is still lent, of any fields that make up the final bytes.
pub final_then_lent : (fields : List (List ℕ)) (final lent : List ℕ) → joined fields ≡ final → FinalThenLent fields final lent
final_then_lent fields final lent e =
    record { front = λ k. rw (← e) (filled_final fields lent k); rest = λ k. filled_rest fields lent k }

front_joined : (signature : List ℕ) (type : ℕ) (fields : List (List ℕ))
    → joined (front_fields signature type ++ fields) ≡ signature ++ (0 ∷ type ∷ joined fields)
unfolding front_fields joined
front_joined signature type fields = refl

-- Records, one by one.
pub records_joined : (rs : ℕ) (recs : List ℕ) (n r : ℕ) → joined (record_fields rs recs n r) ≡ part recs (r * rs) (n * rs)
unfolding joined record_fields
records_joined rs recs zero r = rw zero-mul
records_joined rs recs (suc n) r =
    let next : (r + 1) * rs ≡ r * rs + rs = omega arith in
    rw (records_joined rs recs n (r + 1), next, part_add, suc-mul, add_comm rs (n * rs))

pub records_many : (rs : ℕ) (recs : List ℕ) (n r : ℕ) → length (record_fields rs recs n r) ≡ n
unfolding record_fields
records_many rs recs zero r = refl
records_many rs recs (suc n) r = ap suc (records_many rs recs n (r + 1))

module _ (q : Request) (d : ℕ) where
  pointer_joined : (t : Tree d) (j : ℕ) → joined (pointer_fields q d t j) ≡ pointer q d t j
  unfolding joined pointer_fields pointer pointer_bytes
  pointer_joined t j = rw append-nil

  pub pointers_joined : (ts : Kids (Tree d)) (j : ℕ) → joined (all_pointer_fields q d ts j) ≡ pointers q d ts j
  unfolding all_pointer_fields pointers
  pointers_joined (last t) j = pointer_joined t j
  pointers_joined (more t ts) j = rw (joined_append, pointer_joined t j, pointers_joined ts (j + nodes d t))

module _ (q : Request) (recs : List ℕ) where
  abbrev ns : ℕ
  ns = q.geometry.node_size

  pub own_joined : (d : ℕ) (ts : Kids (Tree d)) (r : ℕ) → joined (own_fields q recs d ts r) ≡ own_records q recs d ts r
  unfolding joined own_fields own_records record_range
  own_joined d (last t) r = refl
  own_joined d (more t ts) r =
      rw (joined_append, records_joined, own_joined d ts (r + size d t + 1))

  -- The fields joined are the node's bytes, in both kinds of nodes.
  pub leaf_joined : (n r : ℕ) → joined (leaf_fields q recs n r) ≡ padded ns (leaf_bytes q recs n r)
  unfolding leaf_fields leaf_bytes record_range
  leaf_joined n r = rw (end_joined, front_joined, records_joined)

  pub internal_joined : (d : ℕ) (ts : Kids (Tree d)) (j r : ℕ)
      → joined (internal_fields q recs d ts j r) ≡ padded ns (internal_bytes q recs d ts j r)
  unfolding internal_fields internal_bytes
  internal_joined d ts j r = rw (end_joined, front_joined, joined_append, own_joined, pointers_joined)

  -- So, in both: the fields are as long together as the node, where it fits its node size.
  pub leaf_covers : (n r : ℕ) → Room q recs r n → 10 + n * q.geometry.record_size ≤ ns → length (joined (leaf_fields q recs n r)) ≡ ns
  leaf_covers n r room h = rw leaf_joined (length_padded ns (leaf_bytes q recs n r) (omega (arith, length_leaf q recs n r room)))

  pub internal_covers : (d : ℕ) (ts : Kids (Tree d)) (j r : ℕ) → Room q recs r (sum_kids (size d) ts + between ts) → Fit q.geometry (suc d) ts
      → length (joined (internal_fields q recs d ts j r)) ≡ ns
  unfolding count
  internal_covers d ts j r room fit =
      rw internal_joined (length_padded ns (internal_bytes q recs d ts j r) (omega (arith, length_internal q recs d ts j r room, fit.node)))

  -- And what document 02 says of a node that is being filled.
  pub leaf_final_then_lent : (n r : ℕ) (lent : List ℕ) → FinalThenLent (leaf_fields q recs n r) (padded ns (leaf_bytes q recs n r)) lent
  leaf_final_then_lent n r lent = final_then_lent (leaf_fields q recs n r) _ lent (leaf_joined n r)

  pub internal_final_then_lent : (d : ℕ) (ts : Kids (Tree d)) (j r : ℕ) (lent : List ℕ)
      → FinalThenLent (internal_fields q recs d ts j r) (padded ns (internal_bytes q recs d ts j r)) lent
  internal_final_then_lent d ts j r lent = final_then_lent (internal_fields q recs d ts j r) _ lent (internal_joined d ts j r)
