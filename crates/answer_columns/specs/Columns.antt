-- The columns of a capacity table.
use Rattle.std.specs.Prelude.{ℕ, List, ◌++◌, map}
use Rattle.node_info.specs.declared.Level.{Level}

-- Level by level the records of a node, then those of a subtree, then the widths of a subtree's total.
abbrev pub columns_of : List Level → List ℕ
columns_of levels =
    map (λ (l : Level). l.max_nrec) levels
    ++ (map (λ (l : Level). l.cum_max_nrec) levels ++ map (λ (l : Level). l.cum_max_nrec_size) levels)
