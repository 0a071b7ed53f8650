-- The length of a header.
use mathlib.Core.Path.{◌≡◌}
use mathlib.Core.List.{List, ◌∷◌, ◌++◌}
use Prim.Native.Nat.{ℕ, ◌+◌}
use native.Mathlib.Omega.{arith}
use lib.ListN.{length, length-append}
use Rattle.numbers.specs.Numbers.{le}
use Rattle.numbers.proofs.Numbers.{le_length}
use Rattle.format.specs.declared.Request.{Request}
use Rattle.format.specs.Bytes.{header_signature, header_size, summed, header_bytes}
use Rattle.format.specs.Request.{header_from}

module _ (q : Request) (depth root root_records n : ℕ) where
  -- The header's bytes from the node size on, and all but its checksum.
  abbrev pub from_size : List ℕ
  from_size =
      le 4 q.geometry.node_size
      ++ (le 2 q.geometry.record_size
      ++ (le 2 depth ++ (100 ∷ 40 ∷ (le q.geometry.offset_size root ++ (le 2 root_records ++ le q.length_size n)))))

  abbrev pub unsummed : List ℕ
  unsummed = header_signature ++ (0 ∷ q.tree_type ∷ from_size)

  pub length_unsummed : length unsummed ≡ 18 + q.geometry.offset_size + q.length_size
  length_unsummed = simp (length-append, le_length) (omega arith)

  pub length_header : length (header_bytes q depth root root_records n) ≡ header_size q.geometry.offset_size q.length_size
  unfolding header_bytes summed
  length_header = simp (length-append, le_length) (omega arith)

pub length_header_from : (q : Request) → length (header_from q) ≡ header_size q.geometry.offset_size q.length_size
unfolding header_from
length_header_from q = length_header q _ _ _ _
