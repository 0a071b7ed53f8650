-- The header that a C caller's figures tell, and the functions without a base by those with one.
use Rattle.std.proofs.Common.{Ok}
use mathlib.Core.Path.{◌≡◌, refl}
use mathlib.Core.List.{List, [], ◌∷◌, ◌++◌}
use Prim.Native.Nat.{ℕ, ◌+◌, ◌^◌, ◌<◌}
use native.Mathlib.Nat.{mod-eq_of_lt}
use native.Mathlib.Omega.{arith}
use lib.ListN.{length, get_or, drop, get_or-eq_default}
use lib.Seq.{get_or-drop}
use Rattle.numbers.proofs.Numbers.{num_lt}
use Rattle.numbers.specs.Places.{put}
use Rattle.numbers.proofs.Lists.{put_fits, stored_whole}
use Rattle.refusal.specs.Answer.{Answer, cells}
use Rattle.refusal.proofs.Answers.{length_cells}
use Rattle.field.specs.declared.Field.{Field}
use Rattle.btree_v2_header.specs.declared.BTreeV2Header.{BTreeV2Header}
use Rattle.btree_v2_header.specs.Header.{header_figures, header_at, with_base, parsed, parsed_at}
use Rattle.btree_v2_header.proofs.Bases.{cells_whole}
use Rattle.btree_v2_header.specs.Answers.{Parses}
use Rattle.btree_v2_find.specs.Find.{found, found_at}
use Rattle.btree_v2_find.proofs.Bases.{found_whole}
use Rattle.btree_v2_leaf_view.specs.Look.{record_answer, record_exit, record_answer_at, record_exit_at}
use Rattle.btree_v2_leaf_view.proofs.Bases.{look_whole}
use Rattle.header_figures.specs.Figures.{header_from}

-- Numbers of a header that are within their fields' ranges.
pub record InRange (h : BTreeV2Header) : Type 0 where
  pub tree_type : h.tree_type < 2 ^ 8
  pub node_size : h.geometry.node_size < 2 ^ 32
  pub record_size : h.geometry.record_size < 2 ^ 16
  pub depth : h.depth < 2 ^ 16
  pub root_records : h.num_records_in_root < 2 ^ 16

-- The figures that the header reader gives tell the header that it read, its base too.
pub told_as_read : (h : BTreeV2Header) → InRange h → header_from (header_figures h ++ (h.base ∷ [])) h.geometry.offset_size ≡ h
told_as_read h r =
    rw (mod-eq_of_lt r.tree_type, mod-eq_of_lt r.node_size, mod-eq_of_lt r.record_size, mod-eq_of_lt r.depth, mod-eq_of_lt r.root_records)

-- So the header's answer carries the header to collecting and to finding: its figures, of a file of bytes, tell the header that was read, with
-- the base that it was read with.
in_range : (file : List ℕ) (base o ow lw : ℕ) → ((i : ℕ) → get_or file i 0 < 256) → InRange (with_base base (header_at file o ow lw))
unfolding header_at
in_range file base o ow lw bytes =
    record {
      tree_type = omega (arith, num_lt file (o + 5) 1 bytes);
      node_size = omega (arith, num_lt file (o + 6) 4 bytes);
      record_size = omega (arith, num_lt file (o + 10) 2 bytes);
      depth = omega (arith, num_lt file (o + 12) 2 bytes);
      root_records = omega (arith, num_lt file (o + 16 + ow) 2 bytes);
    }

pub carried_on : (file : List ℕ) (base o ow lw : ℕ) (h : BTreeV2Header) → ((i : ℕ) → get_or file i 0 < 256) → Parses file base o ow lw (Ok h)
    → header_from (header_figures h ++ (h.base ∷ [])) ow ≡ h
unfolding header_at
carried_on file base o ow lw h bytes parses =
    rw (parses.fields h refl) (told_as_read _ (in_range (drop base file) base o ow lw (λ i. rw (get_or-drop base file i 0) (bytes (base + i)))))

-- The functions without a base by those with one: base 0.
module _ (file : List ℕ) where
  -- Eight numbers of a header read, over an answer of eight places.
  pub parse_whole : (o ow lw : ℕ) (answer : List ℕ) {read : Answer} → length answer ≡ 8 → read ≡ parsed_at file 0 o ow lw
      → put answer 0 (cells 8 read) ≡ cells 8 (parsed file o ow lw)
  parse_whole o ow lw answer {read} eight is =
      let long = length_cells 8 read in
      rw (put_fits answer 0 (cells 8 read) (omega (arith, long)), stored_whole answer (cells 8 read) (omega (arith, long)), is) (cells_whole 8 file o ow lw)

  -- Of seven figures the base is 0.
  pub find_whole : (l : List ℕ) (ow : ℕ) (f : Field) (x : ℕ) → length l ≡ 7 → found_at file (header_from l ow) f x ≡ found file (header_from l ow) f x
  find_whole l ow f x seven = found_whole (header_from l ow) f x file (get_or-eq_default l 0 (omega arith))

  pub record_whole : (rs a n i : ℕ) (out : List ℕ)
      → (record_answer_at file 0 rs a n i out ≡ record_answer file rs a n i out) × (record_exit_at file 0 rs a n i out ≡ record_exit file rs a n i out)
  record_whole rs a n i out = let whole = look_whole rs a n i out file in (whole.answer, whole.exit)
