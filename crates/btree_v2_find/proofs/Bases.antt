-- Finding with a base: the whole call, base 0, a block in front, a base beyond the file, and a tree in order behind a block.
use mathlib.Core.Path.{◌≡◌}
use mathlib.Core.List.{List, [], ◌∷◌, ◌++◌}
use Prim.Native.Nat.{ℕ, ◌≤◌, ◌<◌}
use lib.ListN.{length, drop}
use Rattle.refusal.specs.Answer.{cells}
use Rattle.read_checks.proofs.Base.{on_part_within, on_part_beyond, on_part_whole, on_part_behind}
use Rattle.field.specs.declared.Field.{Field}
use Rattle.btree_v2_header.specs.declared.BTreeV2Header.{BTreeV2Header}
use Rattle.btree_v2_collect.specs.Walk.{Counts, fine}
use Rattle.btree_v2_collect.specs.Collect.{collected_at}
use Rattle.btree_v2_collect.proofs.Bases.{accepts_part}
use Rattle.btree_v2_find.specs.Find.{last_with, place_found, find_cells, found, found_at}
use Rattle.btree_v2_find.specs.Sorted.{NeverFall, record_size, HasKey, FindsFirst}
use Rattle.btree_v2_find.proofs.Sorted.{finds_first}

module _ (h : BTreeV2Header) (f : Field) (x : ℕ) where
  module _ (file : List ℕ) where
    pub found_in_part : h.base ≤ length file → found_at file h f x ≡ found (drop h.base file) h f x
    unfolding found_at
    found_in_part within = on_part_within _ _ file h.base within

    -- 18 comes before all else, an empty tree's acceptance too.
    pub found_beyond : length file < h.base → found_at file h f x ≡ 18 ∷ 0 ∷ 0 ∷ 0 ∷ 0 ∷ 0 ∷ []
    unfolding found_at find_cells cells place_found last_with
    found_beyond beyond = on_part_beyond _ _ file h.base beyond

    -- With base 0 all is as before.
    pub found_whole : h.base ≡ 0 → found_at file h f x ≡ found file h f x
    unfolding found_at
    found_whole e = rw (e, on_part_whole)

  -- A block in front changes nothing.
  pub found_behind : (block file : List ℕ) → h.base ≡ length block → found_at (block ++ file) h f x ≡ found file h f x
  unfolding found_at
  found_behind block file e = rw (e, on_part_behind)

-- A tree in order behind a block: where collecting accepts, finding in the part has document 02's answer.
pub finds_first_at : (file : List ℕ) (h : BTreeV2Header) (f : Field) (x : ℕ) (out o : List ℕ) (c : Counts) → collected_at file h out ≡ fine c o
    → HasKey h f → NeverFall o (record_size h) f c.records → FindsFirst (drop h.base file) h f x o c.records
finds_first_at file h f x out o c e = finds_first (drop h.base file) h f x out o c (accepts_part file h out c o e).part

-- And finding in the file is finding in the part.
pub found_in_order : (file : List ℕ) (h : BTreeV2Header) (f : Field) (x : ℕ) (out o : List ℕ) (c : Counts) → collected_at file h out ≡ fine c o
    → found_at file h f x ≡ found (drop h.base file) h f x
found_in_order file h f x out o c e = found_in_part h f x file (accepts_part file h out c o e).within
