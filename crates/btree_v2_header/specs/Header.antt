-- What the header reader answers of any file: document 01, "Header reader", and document 02, "Two".
use Rattle.std.specs.Prelude.{ℕ, ◌+◌, List, [], ◌∷◌, ◌++◌, eqb, length}
use Rattle.numbers.specs.Numbers.{field_size, part, num}
use Rattle.refusal.specs.Answer.{Answer, accepted, refused, or_else}
use Rattle.format.specs.Bytes.{header_signature, header_size}
use Rattle.read_checks.specs.Base.{on_part}
use Rattle.read_checks.specs.Tests.{needs, same, checksum_test}
use Rattle.btree_v2_header.specs.declared.BTreeV2Header.{BTreeV2Header}

-- A header's figures, as the answer gives them before the base.
abbrev pub header_figures : BTreeV2Header → List ℕ
header_figures h =
    h.tree_type
    ∷ h.geometry.node_size
    ∷ h.geometry.record_size
    ∷ h.depth
    ∷ h.root_node_address
    ∷ h.num_records_in_root
    ∷ h.total_records
    ∷ []

module _ (file : List ℕ) (o ow lw : ℕ) where
  -- The fields of the header at o; split and merge percent are passed over, and the base is 0.
  unfoldable pub header_at : BTreeV2Header
  header_at =
      record {
        tree_type = num file (o + 5) 1;
        geometry = record { node_size = num file (o + 6) 4; record_size = num file (o + 10) 2; offset_size = ow };
        depth = num file (o + 12) 2;
        root_node_address = num file (o + 16) ow;
        num_records_in_root = num file (o + 16 + ow) 2;
        total_records = num file (o + 18 + ow) lw;
        base = 0;
      }

  -- The answer to reading the header at o.
  unfoldable pub parsed : Answer
  parsed =
      needs (o + 4) (length file)
      (or_else (same (part file o 4) header_signature) (refused 2 [])
      (needs (o + 16) (length file)
      (or_else (eqb (num file (o + 4) 1) 0) (refused 3 (num file (o + 4) 1 ∷ []))
      (or_else (field_size ow) (refused 4 (ow ∷ []))
      (needs (o + 16 + ow) (length file)
      (needs (o + 18 + ow) (length file)
      (or_else (field_size lw) (refused 5 (lw ∷ []))
      (needs (o + 18 + ow + lw) (length file)
      (needs (o + header_size ow lw) (length file)
      (checksum_test file o (o + 18 + ow + lw) (accepted (header_figures header_at))))))))))))

-- A header that has this base.
abbrev pub with_base : ℕ → BTreeV2Header → BTreeV2Header
with_base base h =
    record {
      tree_type = h.tree_type;
      geometry = h.geometry;
      depth = h.depth;
      root_node_address = h.root_node_address;
      num_records_in_root = h.num_records_in_root;
      total_records = h.total_records;
      base = base;
    }

-- An answer that carries the base behind its figures.
abbrev pub carrying : ℕ → Answer → Answer
carrying base (accepted figures) = accepted (figures ++ (base ∷ []))
carrying base (refused number values) = refused number values

-- The answer to reading the header at o of the part of the file from the base on; 18 where there is no such part.
unfoldable pub parsed_at : List ℕ → (base o ow lw : ℕ) → Answer
parsed_at file base o ow lw = on_part file base (refused 18 []) (λ p. carrying base (parsed p o ow lw))
