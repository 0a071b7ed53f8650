-- Capacities and field widths of a tree's levels, for every geometry: from document 01, "Capacity table", whose letters
-- stand beside each name; level 0 is the leaves.
use Rattle.std.specs.Prelude.{ℕ, zero, suc, ◌+◌, ◌-◌, ◌*◌, ◌/◌}
use Rattle.numbers.specs.Numbers.{saturated, width}
use Rattle.node_info.specs.declared.Geometry.{Geometry}

-- L: the records that a leaf holds. Differences stop at 0 and a quotient by 0 is 0.
unfoldable pub leaf_capacity : Geometry → ℕ
leaf_capacity g = (g.node_size - 10) / g.record_size

-- W: the width of a node's record count, the same at every level.
unfoldable pub count_width : Geometry → ℕ
count_width g = width (leaf_capacity g)

-- T(u) of a level u with C(u) = c: the width of a subtree's total; a leaf has none.
abbrev pub width_of_total : ℕ → ℕ → ℕ
width_of_total zero c = 0
width_of_total (suc u) c = width c

-- C of a level whose nodes hold m records and whose children's subtrees hold c.
abbrev pub subtree : ℕ → ℕ → ℕ
subtree m c = saturated ((m + 1) * c + m)

-- P(u) of a level whose child pointers have record counts of w = W bytes and totals of t = T(u - 1).
abbrev pub child_pointer_size : Geometry → ℕ → ℕ → ℕ
child_pointer_size g w t = g.offset_size + w + t

-- M(u) of a level whose child pointers have p = P(u) bytes.
unfoldable pub internal_capacity : Geometry → ℕ → ℕ
internal_capacity g p = (g.node_size - 10 - p) / (g.record_size + p)

module _ (g : Geometry) where
  -- C(u): the records that a subtree holds whose root is of level u.
  unfoldable pub subtree_capacity : ℕ → ℕ
  subtree_capacity zero = leaf_capacity g
  subtree_capacity (suc u) =
      let c = subtree_capacity u in
      subtree (internal_capacity g (child_pointer_size g (count_width g) (width_of_total u c))) c

  -- T(u): the width of the total of a subtree whose root is of level u.
  unfoldable pub total_width : ℕ → ℕ
  total_width u = width_of_total u (subtree_capacity u)

  -- P(u + 1): the bytes of a pointer to a child of level u.
  abbrev pub pointer_size_to : ℕ → ℕ
  pointer_size_to u = child_pointer_size g (count_width g) (total_width u)

  -- M(u): the records that a node of level u holds.
  unfoldable pub node_capacity : ℕ → ℕ
  node_capacity zero = leaf_capacity g
  node_capacity (suc u) = internal_capacity g (pointer_size_to u)
