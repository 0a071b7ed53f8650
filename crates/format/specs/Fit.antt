-- A node that fits its node size and the fields of the pointer to it: from the HDF5 File Format Specification, "Version 2 B-trees".
use Rattle.std.specs.Prelude.{ℕ, zero, suc, ◌+◌, ◌*◌, ◌^◌, ◌≤◌, ◌<◌}
use Rattle.plan.specs.Tree.{Tree, count, size}
use Rattle.node_info.specs.declared.Geometry.{Geometry}
use Rattle.node_info.specs.Capacity.{count_width, total_width, pointer_size_to}

-- The bytes of a node of level u with k records.
abbrev pub node_length : Geometry → ℕ → ℕ → ℕ
node_length g zero k = 10 + k * g.record_size
node_length g (suc d) k = 10 + k * g.record_size + (k + 1) * pointer_size_to g d

-- A node fits the node size; its record count, and the total of its subtree unless it is a leaf, fit the fields of the pointer to it.
pub record Fit (g : Geometry) (u : ℕ) (t : Tree u) : Type 0 where
  pub node : node_length g u (count u t) ≤ g.node_size
  pub records : count u t < 256 ^ count_width g
  pub small : count u t < 65536
  pub total : 0 < u → size u t < 256 ^ total_width g u
