-- The child that a pointer of an internal node leads to, of every file and all sizes.
use Rattle.std.specs.Prelude.{ℕ, min, List}
use Rattle.node_info.specs.Table.{pointer_size}
use Rattle.btree_v2_internal.specs.Internal.{pointer_place, child_address, child_records}
use Rattle.btree_v2_internal.specs.declared.Internal.{Internal}

-- An internal node x in a file.
module _ (file : List ℕ) (x : Internal) (i : ℕ) where
  -- The place of pointer i.
  unfoldable pub pointer_at : ℕ
  pointer_at = pointer_place x.record_size (pointer_size x.pointer) x.node.address x.node.records i

  -- The address and the record count there. Of a field past the file's end, its bytes before the end; of a width above 8, the first 8
  -- bytes.
  unfoldable pub address_at : ℕ
  address_at = child_address file (min x.pointer.offset_size 8) pointer_at

  unfoldable pub records_at : ℕ
  records_at = child_records file x.pointer.offset_size (min x.pointer.count_size 8) pointer_at
