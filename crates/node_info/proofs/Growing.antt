-- How a table grows by a level.
use mathlib.Core.Path.{◌≡◌, refl}
use Prim.Native.Nat.{ℕ, ◌+◌, ◌^◌, ◌<◌}
use native.Mathlib.Nat.{le_refl}
use native.Mathlib.Numerals.{add-one}
use native.Mathlib.Omega.{arith}
use Rattle.node_info.specs.Capacity.{count_width, internal_capacity, subtree_capacity, total_width}
use Rattle.node_info.specs.Table.{level_at, no_level, info_at, next_level, with_level_above}
use Rattle.node_info.proofs.Columns.{entries_more, total_entry, subtree_entry}
use Rattle.node_info.proofs.Capacities.{internal_le, node_suc, subtree_suc, total_suc}
use Rattle.node_info.specs.declared.Geometry.{Geometry}

module _ (g : Geometry) where
  pub one_more : (p m : ℕ) → m ≡ internal_capacity g p → g.node_size < 2 ^ 32 → m + 1 < 2 ^ 64
  one_more p m e h = omega (arith, internal_le g p)

  -- The entries of the level above level u.
  level_more : (u : ℕ) → next_level g (g.offset_size + count_width g + total_width g u) (subtree_capacity g u) ≡ level_at g (u + 1)
  unfolding next_level level_at
  level_more u = rw (add-one u, total_suc, subtree_suc, node_suc)

  -- The table of one level more.
  pub info_more : (u : ℕ) → u < 32 → with_level_above g u (info_at g u) ≡ info_at g (u + 1)
  unfolding info_at with_level_above
  info_more u h =
      let total = total_entry g u (info_at g u) refl u (le_refl u) (omega arith) in
      let under = subtree_entry g u (info_at g u) refl u (le_refl u) (omega arith) in
      rw (total, under, level_more u, entries_more no_level (level_at g) u)
