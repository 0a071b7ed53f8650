-- Reading behind a block: the part from the base on, a block in front and base 0.
use mathlib.Core.Path.{◌≡◌, refl}
use mathlib.Core.Bool.{Bool, true, false}
use mathlib.Core.List.{List, ◌++◌}
use Prim.Native.Nat.{ℕ, ◌≤◌, ◌<◌}
use native.Mathlib.Omega.{arith}
use lib.Dec.{leb}
use lib.ListN.{length, drop, length-append}
use lib.Seq.{drop_at}
use borrow.Author.Tests.{le-leb, lt-leb}
use Rattle.refusal.specs.Answer.{or_else}
use Rattle.read_checks.specs.Base.{on_part}

module _ {A : Type 0} (refusal : A) (read : List ℕ → A) where
  module _ (file : List ℕ) (base : ℕ) where
    pub on_part_within : base ≤ length file → on_part file base refusal read ≡ read (drop base file)
    unfolding on_part
    on_part_within h = rw (le-leb base (length file) h)

    pub on_part_beyond : length file < base → on_part file base refusal read ≡ refusal
    unfolding on_part
    on_part_beyond h = rw (lt-leb base (length file) h)

    -- What holds of the refusal and of the part's reading holds of the reading.
    pub on_part_by : (P : A → Type 0) → P refusal → P (read (drop base file)) → P (on_part file base refusal read)
    unfolding on_part
    on_part_by P stops goes = by (leb base (length file))
      where
        by : (t : Bool) → P (or_else t refusal (read (drop base file)))
        by true = goes
        by false = stops

  -- With base 0 the whole file is read.
  pub on_part_whole : (file : List ℕ) → on_part file 0 refusal read ≡ read file
  on_part_whole file = on_part_within file 0 (omega arith)

  -- Behind a block, what is read is what stands there.
  pub on_part_behind : (block file : List ℕ) → on_part (block ++ file) (length block) refusal read ≡ read file
  on_part_behind block file =
      rw (on_part_within (block ++ file) (length block) (rw length-append (omega arith)), drop_at block file (length block) refl)
