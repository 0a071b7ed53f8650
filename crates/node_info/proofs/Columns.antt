-- Laws of the table: its entries, and the table of one level more.
use mathlib.Core.Path.{◌≡◌, refl}
use mathlib.Core.Logic.{⊎_elim}
use mathlib.Core.Bool.{Bool, true, false}
use mathlib.Core.List.{List, ◌∷◌, ◌++◌}
use Prim.Native.Nat.{ℕ, zero, suc, ◌+◌, ◌≤◌, ◌<◌}
use native.Mathlib.Nat.{add-zero, add-suc, suc-add, zero-add, le_refl, not-suc-le-zero, eq-or-lt_of_le}
use native.Mathlib.Numerals.{add-one}
use native.Mathlib.Omega.{arith}
use lib.Dec.{leb}
use lib.ListN.{length, get_or, set, length-set, get_or-eq_default}
use lib.Seq.{ext_get_or, get_or-set_same, get_or-set_other}
use borrow.Author.Tests.{le-leb, lt-leb}
use Rattle.std.specs.Prelude.{map}
use Rattle.std.proofs.lemmas.Bool.{cases_lt}
use Rattle.numbers.specs.Numbers.{pick}
use Rattle.node_info.specs.Capacity.{count_width, total_width, node_capacity, subtree_capacity}
use Rattle.node_info.specs.Table.{column_from, entries, column, level_at, no_level, level_in, pointer_in, info_at, table_figures}
use Rattle.node_info.specs.declared.NodeInfo.{NodeInfo}
use Rattle.node_info.specs.declared.Level.{Level}
use Rattle.node_info.specs.declared.ChildPointer.{ChildPointer}
use Rattle.node_info.specs.declared.Geometry.{Geometry}

module _ {A : Type 0} (none : A) (f : ℕ → A) (d : ℕ) where
  length_from : (i k : ℕ) → length (column_from none f d i k) ≡ k
  unfolding column_from
  length_from i zero = refl
  length_from i (suc k) = rw (length_from (i + 1) k)

  get_or_from : (i k j : ℕ) → j < k → get_or (column_from none f d i k) j none ≡ pick (leb (i + j) d) (f (i + j)) none
  unfolding column_from
  get_or_from i zero j h = absurd (not-suc-le-zero h)
  get_or_from i (suc k) zero h = rw add-zero
  get_or_from i (suc k) (suc j) h = rw (get_or_from (i + 1) k j (omega arith), add-one, suc-add, ← add-suc)

  get_or_column : (i : ℕ) → i < 33 → get_or (entries none f d) i none ≡ pick (leb i d) (f i) none
  unfolding entries
  get_or_column i h = rw (get_or_from 0 33 i h, zero-add)

  pub entries_length : length (entries none f d) ≡ 33
  unfolding entries
  entries_length = length_from 0 33

  -- An entry up to the depth, and one above it.
  pub entries_at : (i : ℕ) → i ≤ d → i < 33 → get_or (entries none f d) i none ≡ f i
  entries_at i h l = rw (get_or_column i l, le-leb i d h)

  pub entries_above : (i : ℕ) → d < i → get_or (entries none f d) i none ≡ none
  entries_above i h =
      ⊎_elim
      (λ (l : i < 33). rw (get_or_column i l, lt-leb i d h))
      (λ (l : 33 ≤ i). get_or-eq_default (entries none f d) none (rw entries_length l))
      (cases_lt i 33)

-- One level more.
pub entries_more : {A : Type 0} (none : A) (f : ℕ → A) (d : ℕ)
    → set (entries none f d) (d + 1) (f (d + 1)) ≡ entries none f (d + 1)
entries_more {A} none f d =
    ext_get_or none more (entries none f (d + 1)) (rw (length-set, entries_length none f d, entries_length none f (d + 1)))
    (λ i l. at i (rw (length-set, entries_length) at l))
  where
    more : List A
    more = set (entries none f d) (d + 1) (f (d + 1))

    other : (i : ℕ) → (i ≡ d + 1 → ⊥) → get_or more i none ≡ get_or (entries none f d) i none
    other i ne = get_or-set_other (entries none f d) (d + 1) i (f (d + 1)) none ne

    at : (i : ℕ) → i < 33 → get_or more i none ≡ get_or (entries none f (d + 1)) i none
    at i l =
        ⊎_elim
        (λ (a : i < d + 1). rw (other i (omega arith), entries_at none f d i (omega arith) l, entries_at none f (d + 1) i (omega arith) l))
        (λ (a : d + 1 ≤ i).
        ⊎_elim
        (λ (e : d + 1 ≡ i).
        rw (← e, get_or-set_same (entries none f d) (d + 1) (f (d + 1)) none (rw entries_length (omega arith)), entries_at none f (d + 1) (d + 1) (le_refl (d + 1)) (omega arith)))
        (λ (b : d + 1 < i). rw (other i (omega arith), entries_above none f d i (omega arith), entries_above none f (d + 1) i b))
        (eq-or-lt_of_le a))
        (cases_lt i (d + 1))

-- A field of each level makes a column.
map_pick : {A B : Type 0} (p : A → B) (b : Bool) (x y : A) → p (pick b x y) ≡ pick b (p x) (p y)
map_pick p true x y = refl
map_pick p false x y = refl

map_from : {A B : Type 0} (p : A → B) (none : A) (f : ℕ → A) (d i k : ℕ)
    → map p (column_from none f d i k) ≡ column_from (p none) (λ u. p (f u)) d i k
unfolding column_from
map_from p none f d i zero = refl
map_from p none f d i (suc k) = rw (map_from p none f d (i + 1) k, map_pick p (leb i d) (f i) none)

pub table_columns : (g : Geometry) (d : ℕ) → table_figures (info_at g d)
    ≡ count_width g ∷ (column (node_capacity g) d ++ (column (subtree_capacity g) d ++ column (total_width g) d))
unfolding info_at level_at entries column
table_columns g d =
    rw (map_from (λ (l : Level). l.max_nrec) no_level (level_at g) d 0 33, map_from (λ (l : Level). l.cum_max_nrec) no_level (level_at g) d 0 33, map_from (λ (l : Level). l.cum_max_nrec_size) no_level (level_at g) d 0 33)

-- A table has 33 levels.
pub levels_length : (g : Geometry) (d : ℕ) → length (info_at g d).levels ≡ 33
unfolding info_at
levels_length g d = entries_length no_level (level_at g) d

-- The entries of a table up to its depth, and the pointer to a child of such a level.
module _ (g : Geometry) (d : ℕ) (t : NodeInfo) (table : t ≡ info_at g d) (u : ℕ) (h : u ≤ d) (l : d ≤ 32) where
  pub level_entry : level_in t u ≡ level_at g u
  unfolding info_at
  level_entry = rw table (entries_at no_level (level_at g) d u h (omega arith))

  pub total_entry : (level_in t u).cum_max_nrec_size ≡ total_width g u
  unfolding level_at
  total_entry = rw level_entry

  pub node_entry : (level_in t u).max_nrec ≡ node_capacity g u
  unfolding level_at
  node_entry = rw level_entry

  pub subtree_entry : (level_in t u).cum_max_nrec ≡ subtree_capacity g u
  unfolding level_at
  subtree_entry = rw level_entry

  pub pointer_entry : (w : ℕ) → ◌≡◌ {A = ChildPointer} (pointer_in t w u)
      (record { offset_size = w; count_size = count_width g; total_size = total_width g u })
  unfolding info_at
  pointer_entry w = rw (total_entry, table)
