-- The capacity table as the call gives it: document 01, "Capacity table".
use Rattle.std.specs.Prelude.{ℕ, zero, suc, ◌+◌, List, [], ◌∷◌, ◌++◌, leb, map, replicate, Result, slice_index_or, slice_set}
use Rattle.numbers.specs.Numbers.{pick, width}
use Rattle.refusal.specs.Answer.{Answer, accepted, refused, answer_of}
use Rattle.node_info.specs.Capacity.{count_width, subtree, internal_capacity, total_width, node_capacity, subtree_capacity}
use Rattle.node_info.specs.declared.NodeInfo.{NodeInfo}
use Rattle.node_info.specs.declared.Level.{Level}
use Rattle.node_info.specs.declared.ChildPointer.{ChildPointer}
use Rattle.refusal.specs.declared.Refusal.{Refusal}
use Rattle.node_info.specs.declared.Geometry.{Geometry}

-- k entries of a column from level i on: f up to level d, and `none` above.
unfoldable pub column_from : {A : Type 0} → A → (ℕ → A) → ℕ → ℕ → ℕ → List A
column_from none f d i zero = []
column_from none f d i (suc k) = pick (leb i d) (f i) none ∷ column_from none f d (i + 1) k

-- The same for the 33 levels of the table; of numbers, a column of it.
unfoldable pub entries : {A : Type 0} → A → (ℕ → A) → ℕ → List A
entries none f d = column_from none f d 0 33

unfoldable pub column : (ℕ → ℕ) → ℕ → List ℕ
column = entries 0

-- The entries of a level, and those of one that holds nothing.
unfoldable pub level_at : Geometry → ℕ → Level
level_at g u =
    record { max_nrec = node_capacity g u; cum_max_nrec = subtree_capacity g u; cum_max_nrec_size = total_width g u }

abbrev pub no_level : Level
no_level = record { max_nrec = 0; cum_max_nrec = 0; cum_max_nrec_size = 0 }

-- The table for depth d.
unfoldable pub info_at : Geometry → ℕ → NodeInfo
info_at g d = record { max_nrec_size = count_width g; levels = entries no_level (level_at g) d }

-- The table of nothing: no width, and 33 levels that hold nothing.
unfoldable pub no_info : NodeInfo
no_info = record { max_nrec_size = 0; levels = replicate 33 no_level }

-- A table's entries of level u, nothing above the highest.
abbrev pub level_in : NodeInfo → ℕ → Level
level_in t u = slice_index_or t.levels u no_level

-- P: the bytes of a child pointer.
abbrev pub pointer_size : ChildPointer → ℕ
pointer_size p = p.offset_size + p.count_size + p.total_size

-- The pointer to a child of level u by this table, with addresses of w bytes.
abbrev pub pointer_in : NodeInfo → ℕ → ℕ → ChildPointer
pointer_in t w u =
    record { offset_size = w; count_size = t.max_nrec_size; total_size = (level_in t u).cum_max_nrec_size }

-- The entries M, C and T of a level whose child pointers have p bytes and whose children's subtrees hold c records.
unfoldable pub next_level : Geometry → ℕ → ℕ → Level
next_level g p c =
    let m = internal_capacity g p in
    let a = subtree m c in
    record { max_nrec = m; cum_max_nrec = a; cum_max_nrec_size = width a }

-- A table with the entries of the level above level u, where it has room for them.
unfoldable pub with_level_above : Geometry → ℕ → NodeInfo → NodeInfo
with_level_above g u t =
    let next = next_level g (pointer_size (pointer_in t g.offset_size u)) (level_in t u).cum_max_nrec in
    record { max_nrec_size = t.max_nrec_size; levels = slice_set t.levels (u + 1) next }

-- The table call's answer: W, M, C, T, or refusal 16.
unfoldable pub tabled : Geometry → ℕ → Answer
tabled g d =
    pick (leb d 32)
    (accepted
    (count_width g
    ∷ (column (node_capacity g) d ++ (column (subtree_capacity g) d ++ column (total_width g) d))))
    (refused 16 (d ∷ []))

-- A table's numbers: W, and the columns M, C and T.
abbrev pub table_figures : NodeInfo → List ℕ
table_figures t =
    t.max_nrec_size
    ∷ (map (λ (l : Level). l.max_nrec) t.levels
    ++ (map (λ (l : Level). l.cum_max_nrec) t.levels ++ map (λ (l : Level). l.cum_max_nrec_size) t.levels))

-- What the table call gives, in those terms.
abbrev pub table_answer : Result NodeInfo Refusal → Answer
table_answer = answer_of table_figures
