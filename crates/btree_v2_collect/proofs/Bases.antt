-- Collecting with a base: the whole call, base 0, a block in front, and a base beyond the file.
use mathlib.Core.Path.{◌≡◌, refl}
use mathlib.Core.Bool.{Bool, true, false}
use mathlib.Core.List.{List, [], ◌++◌}
use Prim.Native.Nat.{ℕ, ◌*◌, ◌≤◌, ◌<◌, zero-le}
use native.Mathlib.Nat.{zero-mul}
use native.Mathlib.Omega.{arith}
use lib.Dec.{leb}
use lib.ListN.{length, drop}
use borrow.Author.Tests.{leb-true}
use Rattle.refusal.specs.Answer.{or_else}
use Rattle.read_checks.specs.Base.{on_part}
use Rattle.read_checks.proofs.Base.{on_part_by, on_part_within, on_part_beyond, on_part_whole, on_part_behind}
use Rattle.btree_v2_header.specs.Header.{with_base}
use Rattle.btree_v2_header.specs.declared.BTreeV2Header.{BTreeV2Header}
use Rattle.btree_v2_collect.specs.Walk.{Counts, fine, stopped, no_counts}
use Rattle.btree_v2_collect.specs.Collect.{collected, collected_at}
use Rattle.btree_v2_collect.proofs.Fronts.{run_counts, Fronted, stays, collected_fronted}

module _ (h : BTreeV2Header) (out : List ℕ) where
  module _ (file : List ℕ) where
    pub collected_in_part : h.base ≤ length file → collected_at file h out ≡ collected (drop h.base file) h out
    unfolding collected_at
    collected_in_part within = on_part_within _ _ file h.base within

    -- 18 comes before all else, an empty tree's acceptance too.
    pub collected_beyond : length file < h.base → collected_at file h out ≡ stopped 18 [] no_counts out
    unfolding collected_at
    collected_beyond beyond = on_part_beyond _ _ file h.base beyond

    -- With base 0 all is as before.
    pub collected_whole : h.base ≡ 0 → collected_at file h out ≡ collected file h out
    unfolding collected_at
    collected_whole e = rw (e, on_part_whole)

  -- A block in front changes nothing.
  pub collected_behind : (block file : List ℕ) → h.base ≡ length block → collected_at (block ++ file) h out ≡ collected file h out
  unfolding collected_at
  collected_behind block file e = rw (e, on_part_behind)

-- A collecting that accepts has a base within the file, and accepts the part.
pub record AcceptsPart (file : List ℕ) (h : BTreeV2Header) (out : List ℕ) (c : Counts) (o : List ℕ) : Type 0 where
  pub within : h.base ≤ length file
  pub part : collected (drop h.base file) h out ≡ fine c o

pub accepts_part : (file : List ℕ) (h : BTreeV2Header) (out : List ℕ) (c : Counts) (o : List ℕ) → collected_at file h out ≡ fine c o → AcceptsPart file h out c o
unfolding collected_at on_part
accepts_part file h out c o e = by (leb h.base (length file)) refl e
  where
    by : (t : Bool) → leb h.base (length file) ≡ t → or_else t (stopped 18 [] no_counts out) (collected (drop h.base file) h out) ≡ fine c o
        → AcceptsPart file h out c o
    by true is f = record { within = leb-true h.base (length file) is; part = f }
    by false is f = let z : ◌≡◌ {A = ℕ} 0 1 = cc in absurd (omega arith)

-- Refused or not, with any base: whole records at the front of the output, within it, and no other byte changed.
pub fronted_at : (file : List ℕ) (h : BTreeV2Header) (out : List ℕ) → Fronted h.geometry.record_size 0 out (collected_at file h out)
unfolding collected_at
fronted_at file h out =
    on_part_by _ _ file h.base (Fronted h.geometry.record_size 0 out) (stays h.geometry.record_size no_counts out)
    (collected_fronted (drop h.base file) h out)

pub within_at : (file : List ℕ) (h : BTreeV2Header) (out : List ℕ) → (run_counts (collected_at file h out)).records * h.geometry.record_size ≤ length out
within_at file h out = (fronted_at file h out).room (rw zero-mul zero-le)

-- Collecting in a part goes by the header's other figures.
pub collected_based : (file : List ℕ) (h : BTreeV2Header) (base : ℕ) (out : List ℕ) → collected file (with_base base h) out ≡ collected file h out
unfolding collected
collected_based file h base out = refl
