-- A look with a base: base 0, a block in front, and a base beyond the file.
use mathlib.Core.Path.{◌≡◌}
use mathlib.Core.List.{List, [], ◌++◌}
use Prim.Native.Nat.{ℕ, ◌<◌}
use lib.ListN.{length}
use Rattle.refusal.specs.Answer.{refused}
use Rattle.read_checks.proofs.Base.{on_part_beyond, on_part_whole, on_part_behind}
use Rattle.btree_v2_leaf_view.specs.Look.{look_test, look_bytes, record_answer, record_exit, look_test_at, look_bytes_at, record_answer_at, record_exit_at}

module _ (rs a n i : ℕ) (out : List ℕ) where
  -- A look at the leaf, and the copy of record i, in the file with a base are those in `part`.
  pub record LooksAs (file : List ℕ) (base : ℕ) (part : List ℕ) : Type 0 where
    pub test : look_test_at file base rs a n ≡ look_test part rs a n
    pub bytes : look_bytes_at file base rs a n ≡ look_bytes part rs a n
    pub answer : record_answer_at file base rs a n i out ≡ record_answer part rs a n i out
    pub exit : record_exit_at file base rs a n i out ≡ record_exit part rs a n i out

  -- With base 0 all is as before.
  pub look_whole : (file : List ℕ) → LooksAs file 0 file
  unfolding look_test_at look_bytes_at record_answer_at record_exit_at
  look_whole file =
      record {
        test = on_part_whole _ _ file;
        bytes = on_part_whole _ _ file;
        answer = on_part_whole _ _ file;
        exit = on_part_whole _ _ file;
      }

  -- A block in front changes nothing.
  pub look_behind : (block file : List ℕ) → LooksAs (block ++ file) (length block) file
  unfolding look_test_at look_bytes_at record_answer_at record_exit_at
  look_behind block file =
      record {
        test = on_part_behind _ _ block file;
        bytes = on_part_behind _ _ block file;
        answer = on_part_behind _ _ block file;
        exit = on_part_behind _ _ block file;
      }

  -- 18 comes before all else, and the output is as it was lent.
  pub record RefusedBy18 (file : List ℕ) (base : ℕ) : Type 0 where
    pub test : look_test_at file base rs a n ≡ refused 18 []
    pub bytes : look_bytes_at file base rs a n ≡ []
    pub answer : record_answer_at file base rs a n i out ≡ refused 18 []
    pub exit : record_exit_at file base rs a n i out ≡ out

  pub look_18 : (file : List ℕ) (base : ℕ) → length file < base → RefusedBy18 file base
  unfolding look_test_at look_bytes_at record_answer_at record_exit_at
  look_18 file base h =
      record {
        test = on_part_beyond _ _ file base h;
        bytes = on_part_beyond _ _ file base h;
        answer = on_part_beyond _ _ file base h;
        exit = on_part_beyond _ _ file base h;
      }
