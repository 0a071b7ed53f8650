-- The return of the header: what the header reader answers where the header of a write stands in a file.
use mathlib.Core.Path.{◌≡◌, ◌∙◌, ap}
use mathlib.Core.Bool.{true}
use mathlib.Core.Logic.{⊎_elim}
use mathlib.Core.List.{List, [], ◌∷◌, ◌++◌}
use Prim.Native.Nat.{ℕ, ◌+◌, ◌-◌, ◌^◌, ◌≤◌, ◌<◌}
use native.Mathlib.Nat.{div-le_self, eq-zero-or-pos}
use native.Mathlib.Omega.{arith}
use lib.Dec.{leb, lit<}
use lib.ListN.{length}
use borrow.Author.Tests.{le-leb}
use Rattle.checksum.proofs.Promise.{lookup3, lookup3_lt}
use Rattle.numbers.specs.Numbers.{le, unle, part, num, field_size}
use Rattle.numbers.proofs.Numbers.{le_length}
use Rattle.refusal.specs.Answer.{Answer, accepted}
use Rattle.node_info.specs.Capacity.{leaf_capacity}
use Rattle.plan.specs.Tree.{count}
use Rattle.plan.specs.Planned.{plan_tree, planned}
use Rattle.plan.proofs.Checks.{Plannable, accepted_plannable}
use Rattle.plan.proofs.Depths.{depth_le, depth_none}
use Rattle.format.specs.Bytes.{header_signature, header_size, summed, header_bytes}
use Rattle.read_checks.specs.Tests.{checksum_test}
use Rattle.btree_v2_header.specs.declared.BTreeV2Header.{BTreeV2Header}
use Rattle.btree_v2_header.specs.Header.{header_figures, header_at, parsed}
use Rattle.format.specs.declared.Request.{Request}
use Rattle.format.specs.Request.{depth_of, root_of, root_records_of, header_from}
use Rattle.round_trip.specs.Return.{header_written}
use Rattle.numbers.proofs.Standing.{Stand, stand_left, stand_right, stand_end, stand_num}
use Rattle.read_checks.proofs.Passing.{same_refl}
use Rattle.round_trip.proofs.Summed.{checksum_passes}
use Rattle.write_checks.proofs.Accepted.{Accepts, count_fits, root_fits}
use Rattle.write_checks.proofs.Fitting.{root_within}
use Rattle.format.proofs.HeaderLengths.{from_size, unsummed, length_unsummed, length_header, length_header_from}

-- A byte or a field, and what stands after it.
module _ (file : List ℕ) (p : ℕ) (ys : List ℕ) (r : ℕ) where
  byte : (x : ℕ) → Stand file p (x ∷ ys) → p + 1 ≡ r → (num file p 1 ≡ x) × Stand file r ys
  unfolding num unle
  byte x h e = (rw (stand_left file p (x ∷ []) ys h) (omega arith), rw (← e) (stand_right file p (x ∷ []) ys h))

  field : (w x : ℕ) → x < 256 ^ w → Stand file p (le w x ++ ys) → p + w ≡ r → (num file p w ≡ x) × Stand file r ys
  field w x l h e =
      (stand_num file p w x (stand_left file p (le w x) ys h) l, rw (← e) (rw le_length at (stand_right file p (le w x) ys h)))

-- Where all tests pass the reader gives the fields.
pub parsed_passed : (file : List ℕ) (o ow lw : ℕ) → o + header_size ow lw ≤ length file → part file o 4 ≡ header_signature
    → num file (o + 4) 1 ≡ 0 → field_size ow ≡ true → field_size lw ≡ true
    → checksum_test file o (o + 18 + ow + lw) (accepted (header_figures (header_at file o ow lw)))
    ≡ accepted (header_figures (header_at file o ow lw))
    → parsed file o ow lw ≡ accepted (header_figures (header_at file o ow lw))
unfolding parsed
parsed_passed file o ow lw l s v fo fl c =
    let there : (end : ℕ) → end ≤ o + header_size ow lw → leb end (length file) ≡ true = λ end h. le-leb end (length file) (omega arith) in
    rw (there (o + 4) (omega arith), s, same_refl header_signature, there (o + 16) (omega arith), v, fo)
    (rw (there (o + 16 + ow) (omega arith), there (o + 18 + ow) (omega arith), fl, there (o + 18 + ow + lw) (omega arith), there (o + header_size ow lw) (omega arith)) c)

-- A header that stands in a file is read.
module _ (sum_fits : (xs : List ℕ) → lookup3 xs < 256 ^ 4) (file : List ℕ) (o : ℕ) (q : Request) (depth root root_records n : ℕ)
    (stands : Stand file o (header_bytes q depth root root_records n)) where
  read_unsummed : Stand file o (unsummed q depth root root_records n)
  unfolding header_bytes summed
  read_unsummed = stand_left file o (unsummed q depth root root_records n) _ stands

  read_checksum : (rest : Answer) → checksum_test file o (o + 18 + q.geometry.offset_size + q.length_size) rest ≡ rest
  unfolding header_bytes
  read_checksum rest =
      let e : o + length (unsummed q depth root root_records n) ≡ o + 18 + q.geometry.offset_size + q.length_size =
      omega (arith, length_unsummed q depth root root_records n) in
      rw (← e) (checksum_passes sum_fits file (unsummed q depth root root_records n) o stands rest)

  module _ (fo : field_size q.geometry.offset_size ≡ true) (fl : field_size q.length_size ≡ true) (ns : q.geometry.node_size < 256 ^ 4) (rs : q.geometry.record_size < 256 ^ 2)
      (d : depth < 256 ^ 2) (a : root < 256 ^ q.geometry.offset_size) (r : root_records < 256 ^ 2) (c : n < 256 ^ q.length_size) where
    abbrev written : BTreeV2Header
    written =
        record {
          tree_type = q.tree_type;
          geometry = q.geometry;
          depth = depth;
          root_node_address = root;
          num_records_in_root = root_records;
          total_records = n;
          base = 0;
        }

    abbrev ow : ℕ
    ow = q.geometry.offset_size

    abbrev lw : ℕ
    lw = q.length_size

    -- The version is 0, and the fields are those that were written.
    fields_read : (num file (o + 4) 1 ≡ 0) × (header_at file o ow lw ≡ written)
    unfolding header_at
    fields_read =
        let signed = stand_right file o header_signature (0 ∷ q.tree_type ∷ from_size q depth root root_records n) read_unsummed in
        let version = byte file (o + 4) _ (o + 5) 0 signed (omega arith) in
        let tree_type = byte file (o + 5) _ (o + 6) q.tree_type version.1 (omega arith) in
        let size = field file (o + 6) _ (o + 10) 4 q.geometry.node_size ns tree_type.1 (omega arith) in
        let record-size = field file (o + 10) _ (o + 12) 2 q.geometry.record_size rs size.1 (omega arith) in
        let level = field file (o + 12) _ (o + 14) 2 depth d record-size.1 (omega arith) in
        let split = byte file (o + 14) _ (o + 15) 100 level.1 (omega arith) in
        let merge = byte file (o + 15) _ (o + 16) 40 split.1 (omega arith) in
        let address = field file (o + 16) _ (o + 16 + ow) ow root a merge.1 (omega arith) in
        let count = field file (o + 16 + ow) _ (o + 18 + ow) 2 root_records r address.1 (omega arith) in
        let total = stand_num file (o + 18 + ow) lw n count.1 c in
        (version.0, rw (tree_type.0, size.0, record-size.0, level.0, address.0, count.0, total))

    pub header_fields : header_at file o ow lw ≡ written
    header_fields = fields_read.1

    pub header_read : parsed file o ow lw ≡ accepted (header_figures written)
    header_read =
        let all = length_header q depth root root_records n in
        let end = rw all at (stand_end file o _ stands (rw all (omega arith))) in
        parsed_passed file o ow lw end (stand_left file o header_signature _ read_unsummed) fields_read.0 fo fl (read_checksum _)
        ∙ ap (λ h. accepted (header_figures h)) header_fields

-- What a write that was accepted put into the header.
module _ (q : Request) (recs : List ℕ) (a : Accepts q recs) where
  plan : Plannable q.record_count q.geometry
  plan = (accepted_plannable q.record_count q.geometry a.figures a.plan).0

  -- The depth and the root's records fit their two bytes; where there is no record, the root is an empty leaf.
  deep : depth_of q < 256 ^ 2
  deep = omega (arith, depth_le q.record_count q.geometry)

  root_empty : q.record_count ≡ 0 → root_records_of q ≡ 0
  unfolding root_records_of planned plan_tree count
  root_empty z = rw (depth_none q.record_count q.geometry z) z

  root_small : root_records_of q < 256 ^ 2
  unfolding leaf_capacity
  root_small =
      ⊎_elim
      (λ (z : q.record_count ≡ 0). rw (root_empty z) (lit< tt))
      (λ (some : 0 < q.record_count). omega (arith, plan, root_within q recs a some, div-le_self (q.geometry.node_size - 10) q.geometry.record_size))
      (eq-zero-or-pos q.record_count)

  -- The header stands whole at o, and is read as it was written.
  module _ (rs : q.geometry.record_size < 65536) (file : List ℕ) (o : ℕ)
      (h : part file o (header_size q.geometry.offset_size q.length_size) ≡ header_from q) where
    stands : Stand file o (header_from q)
    stands = rw length_header_from h

    pub header_returned : parsed file o q.geometry.offset_size q.length_size ≡ accepted (header_figures (header_written q))
    unfolding header_from header_written
    header_returned =
        header_read lookup3_lt file o q (depth_of q) (root_of q) (root_records_of q) q.record_count stands
        a.offset a.lengths (omega (arith, plan)) rs deep (root_fits q recs a) root_small (count_fits q recs a)

    pub fields_returned : header_at file o q.geometry.offset_size q.length_size ≡ header_written q
    unfolding header_from header_written
    fields_returned =
        header_fields lookup3_lt file o q (depth_of q) (root_of q) (root_records_of q) q.record_count stands
        a.offset a.lengths (omega (arith, plan)) rs deep (root_fits q recs a) root_small (count_fits q recs a)
