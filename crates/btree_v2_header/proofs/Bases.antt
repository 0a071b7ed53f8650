-- A header read with a base: the whole call, base 0, a block in front, and a base beyond the file.
use mathlib.Core.Path.{◌≡◌, refl}
use mathlib.Core.List.{List, [], ◌++◌}
use Prim.Native.Nat.{ℕ, ◌≤◌, ◌<◌}
use lib.ListN.{length, drop}
use Rattle.refusal.specs.Answer.{Answer, accepted, refused, cells}
use Rattle.refusal.proofs.Answers.{cells_zero}
use Rattle.read_checks.proofs.Base.{on_part_within, on_part_beyond, on_part_whole, on_part_behind}
use Rattle.btree_v2_header.specs.Header.{carrying, parsed, parsed_at}

module _ (file : List ℕ) (base o ow lw : ℕ) where
  pub parsed_in_part : base ≤ length file → parsed_at file base o ow lw ≡ carrying base (parsed (drop base file) o ow lw)
  unfolding parsed_at
  parsed_in_part h = on_part_within _ _ file base h

  -- 18 comes before all else.
  pub parsed_beyond : length file < base → parsed_at file base o ow lw ≡ refused 18 []
  unfolding parsed_at
  parsed_beyond h = on_part_beyond _ _ file base h

-- With base 0 all is as before.
pub parsed_whole : (file : List ℕ) (o ow lw : ℕ) → parsed_at file 0 o ow lw ≡ carrying 0 (parsed file o ow lw)
unfolding parsed_at
parsed_whole file o ow lw = on_part_whole _ _ file

-- So are the numbers of an answer that has no place for the base, or one in which it is 0.
pub cells_whole : (k : ℕ) (file : List ℕ) (o ow lw : ℕ) → cells k (parsed_at file 0 o ow lw) ≡ cells k (parsed file o ow lw)
cells_whole k file o ow lw = rw (parsed_whole file o ow lw) (carried (parsed file o ow lw))
  where
    carried : (a : Answer) → cells k (carrying 0 a) ≡ cells k a
    carried (accepted figures) = cells_zero k figures
    carried (refused number values) = refl

-- A block in front changes nothing.
pub parsed_behind : (block file : List ℕ) (o ow lw : ℕ)
    → parsed_at (block ++ file) (length block) o ow lw ≡ carrying (length block) (parsed file o ow lw)
unfolding parsed_at
parsed_behind block file o ow lw = on_part_behind _ _ block file
