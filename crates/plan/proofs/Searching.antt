-- The search for the depth, in the forms in which the proof of `deepen` has it.
use mathlib.Core.Path.{◌≡◌, sym, ap}
use Prim.Native.Nat.{ℕ, ◌+◌, ◌≤◌, ◌<◌, zero-le}
use native.Mathlib.Nat.{le_refl}
use native.Mathlib.Omega.{arith}
use Rattle.refusal.specs.declared.Refusal.TheVariants.{LevelHoldsNone}
use Rattle.node_info.specs.Capacity.{subtree_capacity, node_capacity}
use Rattle.node_info.specs.Table.{info_at, level_in, with_level_above}
use Rattle.node_info.specs.declared.NodeInfo.{NodeInfo}
use Rattle.node_info.specs.declared.Geometry.{Geometry}
use Rattle.node_info.proofs.Columns.{node_entry, subtree_entry}
use Rattle.node_info.proofs.Growing.{info_more}
use Rattle.plan.specs.Steps.{Passed, Found, HoldsNone}
use Rattle.plan.proofs.Depths.{Tried, tried_none, tried_next, level_low, found_enough, empty_here, empty_test}

module _ (n : ℕ) (g : Geometry) where
  -- What the loop keeps: the table of depth u, and that each level below is too small and holds records.
  pub record Sought (t : NodeInfo) (u : ℕ) : Type 0 where
    pub low : u ≤ 23
    pub table : t ≡ info_at g u
    pub tried : Tried n g u

  pub sought_start : (t : NodeInfo) → t ≡ info_at g 0 → Sought t 0
  sought_start t e = record { low = zero-le; table = e; tried = tried_none n g }

  module _ (t : NodeInfo) (u : ℕ) (sought : Sought t u) where
    subtrees : (level_in t u).cum_max_nrec ≡ subtree_capacity g u
    subtrees = subtree_entry g u t sought.table u (le_refl u) (omega (arith, sought.low))

    nodes : (level_in t u).max_nrec ≡ node_capacity g u
    nodes = node_entry g u t sought.table u (le_refl u) (omega (arith, sought.low))

    -- The level is enough.
    pub sought_enough : n ≤ (level_in t u).cum_max_nrec → Found n g t u
    sought_enough h = found_enough n g u sought.low sought.tried t sought.table (rw subtrees at h)

    -- It is too small: it holds none, or the search goes on.
    module _ (pass : Passed n g) (h : (level_in t u).cum_max_nrec < n) where
      small : subtree_capacity g u < n
      small = rw subtrees at h

      pub sought_empty : (level_in t u).max_nrec ≡ 0 → HoldsNone n g t (LevelHoldsNone u)
      sought_empty e =
          let none : node_capacity g u ≡ 0 = rw nodes at e in
          let here = empty_here n g u sought.low sought.tried t sought.table small none in
          record {
            low = rw here sought.low;
            table = rw here sought.table;
            empty = empty_test n g u sought.low sought.tried t sought.table small none;
            is_cause = ap LevelHoldsNone (sym here);
          }

      pub sought_turn : ((level_in t u).max_nrec ≡ 0 → ⊥) → Sought (with_level_above g u t) (u + 1)
      sought_turn ne =
          let some : 0 < node_capacity g u = let e = rw nodes at ne in omega arith in
          let low : u < 23 = level_low n g pass u small some in
          record {
            low = omega arith;
            table = rw (sought.table, info_more g u (omega arith));
            tried = tried_next n g u sought.tried small some;
          }
