-- Laws of the tree of an accepted plan: its depth is the least that is enough, its counts add up, and every node is within bounds.
use mathlib.Core.Path.{◌≡◌, refl}
use mathlib.Core.Bool.{true}
use mathlib.Core.Logic.{⊎_elim}
use mathlib.Core.List.{[], ◌∷◌}
use Prim.Native.Nat.{ℕ, ◌+◌, ◌-◌, ◌^◌, ◌≤◌, ◌<◌, zero-le}
use native.Mathlib.Nat.{eq-zero-or-pos, one-mul}
use lib.Dec.{ltb}
use Rattle.node_info.specs.Capacity.{subtree_capacity, node_capacity}
use Rattle.plan.specs.Tree.{Tree, count, size, below, nodes, leaves}
use Rattle.plan.specs.Steps.{Passed}
use Rattle.plan.specs.Planned.{plan_tree, thin, plan_depth, planned, plan_figures}
use Rattle.plan.proofs.Checks.{Plannable}
use Rattle.plan.proofs.Depths.{holding, depth_small, depth_none, depth_holds, depth_holds_all, depth_levels}
use Rattle.plan.proofs.Plans.{plan_size, plan_filled, plan_nodes_le, plan_within}
use Rattle.plan.proofs.Thin.{Levels, thin_root}
use Rattle.plan.proofs.Trees.{Within, Filled}
use Rattle.node_info.specs.declared.Geometry.{Geometry}

-- Refusal 11 is decided at the root.
pub thin_plan : (n : ℕ) (g : Geometry) (pass : Passed n g) → holding n g ≡ true
    → thin (subtree_capacity g) (plan_depth n g) n ≡ ltb n (2 ^ (plan_depth n g + 1) - 1)
thin_plan n g pass test =
    thin_root (subtree_capacity g) (node_capacity g) (plan_depth n g) n
    (depth_levels n g pass.some (depth_holds n g pass test)) (depth_holds_all n g pass test)

-- No records: one empty leaf.
module _ (g : Geometry) where
  pub planned_none : ◌≡◌ {A = (d : ℕ) × Tree d} (plan_depth 0 g, planned 0 g) (0, 0)
  unfolding planned plan_tree
  planned_none = rw (depth_none 0 g refl)

  pub figures_none : plan_figures 0 g ≡ 0 ∷ 1 ∷ 1 ∷ g.node_size ∷ []
  unfolding plan_figures planned plan_tree nodes below leaves
  figures_none = rw (depth_none 0 g refl, one-mul)

  none_within : Within (node_capacity g) (subtree_capacity g) (plan_depth 0 g) (planned 0 g)
  unfolding planned plan_tree count size
  none_within = rw (depth_none 0 g refl) (zero-le, zero-le)

  none_size : size (plan_depth 0 g) (planned 0 g) ≡ 0
  unfolding planned plan_tree size
  none_size = rw (depth_none 0 g refl)

module _ (n : ℕ) (g : Geometry) (p : Plannable n g) where
  -- The depth is the least level that is enough, and 23 at most.
  pub planned_least : (u : ℕ) → u < plan_depth n g → subtree_capacity g u < n
  planned_least = depth_small n g

  pub planned_deep : plan_depth n g ≤ 23
  planned_deep = p.deep

  pub planned_levels : Levels (subtree_capacity g) (node_capacity g) (plan_depth n g)
  planned_levels = depth_levels n g p.pass.some p.holds

  -- The counts add up to n.
  pub planned_size : size (plan_depth n g) (planned n g) ≡ n
  unfolding planned
  planned_size =
      ⊎_elim
      (λ (e : n ≡ 0). rw e (none_size g))
      (λ (h : 0 < n). plan_size (subtree_capacity g) (plan_depth n g) n (p.thick h))
      (eq-zero-or-pos n)

  -- Every node of level u holds node_capacity u records at most, and every subtree subtree_capacity u.
  pub planned_within : Within (node_capacity g) (subtree_capacity g) (plan_depth n g) (planned n g)
  unfolding planned
  planned_within =
      ⊎_elim
      (λ (e : n ≡ 0). rw e (none_within g))
      (λ (h : 0 < n).
      plan_within (subtree_capacity g) (node_capacity g) (plan_depth n g) n planned_levels (p.thick h) p.enough)
      (eq-zero-or-pos n)

  -- Where there are records, every node holds one, so there are no more nodes than records.
  pub planned_filled : 0 < n → Filled (plan_depth n g) (planned n g)
  unfolding planned
  planned_filled h = plan_filled (subtree_capacity g) (plan_depth n g) n (p.thick h)

  pub planned_nodes : 0 < n → nodes (plan_depth n g) (planned n g) ≤ n
  unfolding planned
  planned_nodes h = plan_nodes_le (subtree_capacity g) (plan_depth n g) n (p.thick h)
