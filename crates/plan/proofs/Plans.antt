-- Laws of the planned tree: its counts by the children's two numbers, that the counts add up, and that every node is within bounds.
use mathlib.Core.Path.{◌≡◌, refl, fun_ext, ◌∙◌}
use mathlib.Core.Bool.{false}
use Prim.Native.Nat.{ℕ, zero, suc, ◌+◌, ◌-◌, ◌*◌, ◌≤◌, ◌<◌}
use native.Mathlib.Omega.{arith}
use Rattle.plan.specs.Tree.{Tree, sum_kids, between, count, size, below, nodes, leaves}
use Rattle.plan.specs.Planned.{taken, children, plan_tree, thin}
use Rattle.plan.proofs.Distributing.{sum_of_children, share, extra, length_children, children_some, sum_children, children_le, taken_pos, taken_le, taken_most}
use Rattle.std.specs.List.{All, sum_by}
use Rattle.plan.proofs.Lists.{sum_by_cong, sum_kids_of, between_of, all_kids_of}
use Rattle.plan.proofs.Thin.{Levels, levels_below, thin_pos, thin_children}
use Rattle.plan.proofs.Trees.{Within, Filled, nodes_le_size}

module _ (c : ℕ → ℕ) where
  -- A sum over the root's children, and by their two numbers.
  pub plan_sum : (d n : ℕ) (g : Tree d → ℕ)
      → sum_kids g (plan_tree c (suc d) n) ≡ sum_by (λ x. g (plan_tree c d x)) (children (c d) n)
  unfolding plan_tree
  plan_sum d n g = sum_kids_of (plan_tree c d) g (children (c d) n) (children_some (c d) n)

  pub plan_two : (d n : ℕ) (g : Tree d → ℕ)
      → sum_kids g (plan_tree c (suc d) n)
      ≡ extra (c d) n * g (plan_tree c d (share (c d) n + 1)) + (taken (c d) n + 1 - extra (c d) n) * g (plan_tree c d (share (c d) n))
  plan_two d n g = plan_sum d n g ∙ sum_of_children (λ x. g (plan_tree c d x)) (c d) n

  pub plan_between : (d n : ℕ) → between (plan_tree c (suc d) n) ≡ taken (c d) n
  unfolding plan_tree
  plan_between d n =
      omega (arith, between_of (plan_tree c d) (children (c d) n) (children_some (c d) n), length_children (c d) n)

  pub plan_count : (d n : ℕ) → count (suc d) (plan_tree c (suc d) n) ≡ taken (c d) n
  unfolding count
  plan_count d n = plan_between d n

  pub plan_nodes : (d n : ℕ)
      → nodes (suc d) (plan_tree c (suc d) n)
      ≡ extra (c d) n * nodes d (plan_tree c d (share (c d) n + 1))
      + (taken (c d) n + 1 - extra (c d) n) * nodes d (plan_tree c d (share (c d) n))
      + 1
  unfolding nodes below
  plan_nodes d n = rw (plan_two d n (λ t. below d t + 1))

  pub plan_leaves : (d n : ℕ)
      → leaves (suc d) (plan_tree c (suc d) n)
      ≡ extra (c d) n * leaves d (plan_tree c d (share (c d) n + 1))
      + (taken (c d) n + 1 - extra (c d) n) * leaves d (plan_tree c d (share (c d) n))
  unfolding leaves
  plan_leaves d n = plan_two d n (leaves d)

  -- The counts add up, and every node holds a record, so there are no more nodes than records.
  pub plan_size : (d n : ℕ) → thin c d n ≡ false → size d (plan_tree c d n) ≡ n
  unfolding size plan_tree
  plan_size zero n h = refl
  plan_size (suc d) n h =
      let kids : All (λ x. size d (plan_tree c d x) ≡ x) (children (c d) n) = λ i e b. plan_size d _ (thin_children c d n h i e b) in
      omega (arith, plan_sum d n (size d), plan_between d n, sum_by_cong (λ x. size d (plan_tree c d x)) (λ x. x) (children (c d) n) kids, sum_children (c d) n, taken_le (c d) n (thin_pos c (suc d) n h))

  pub plan_filled : (d n : ℕ) → thin c d n ≡ false → Filled d (plan_tree c d n)
  unfolding count plan_tree
  plan_filled zero n h = thin_pos c zero n h
  plan_filled (suc d) n h =
      (omega (arith, plan_between d n, taken_pos (c d) n), all_kids_of (plan_tree c d) (Filled d) (children (c d) n) (children_some (c d) n) (λ i e b. plan_filled d _ (thin_children c d n h i e b)))

  pub plan_nodes_le : (d n : ℕ) → thin c d n ≡ false → nodes d (plan_tree c d n) ≤ n
  plan_nodes_le d n h = omega (arith, nodes_le_size d (plan_tree c d n) (plan_filled d n h), plan_size d n h)

  -- Every node holds what its level can, and every subtree too.
  pub plan_within : (m : ℕ → ℕ) (d n : ℕ) → Levels c m d → thin c d n ≡ false → n ≤ c d → Within m c d (plan_tree c d n)
  unfolding count size plan_tree
  plan_within m zero n l h e = (omega (arith, l.leaf), e)
  plan_within m (suc d) n l h e = (
    (
      omega (arith, plan_between d n, taken_most (c d) (m (suc d)) n (l.some d (omega arith)) (omega (arith, l.most d (omega arith)))),
      omega (arith, plan_size (suc d) n h),
    ),
    all_kids_of (plan_tree c d) (Within m c d) (children (c d) n) (children_some (c d) n)
        (λ i e b. plan_within m d _ (levels_below c m d l) (thin_children c d n h i e b) (children_le (c d) n i e b)),
  )

-- Only the capacities of the levels below the root count.
module _ (c e : ℕ → ℕ) where
  pub plan_agree : (d n : ℕ) → ((u : ℕ) → u < d → c u ≡ e u) → plan_tree c d n ≡ plan_tree e d n
  unfolding plan_tree
  plan_agree zero n h = refl
  plan_agree (suc d) n h =
      let f : plan_tree c d ≡ plan_tree e d = fun_ext (λ x. plan_agree d x (λ u l. h u (omega arith))) in
      rw (f, h d (omega arith))

  pub thin_agree : (d n : ℕ) → ((u : ℕ) → u < d → c u ≡ e u) → thin c d n ≡ thin e d n
  unfolding thin
  thin_agree zero n h = refl
  thin_agree (suc d) n h =
      let f : thin c d ≡ thin e d = fun_ext (λ x. thin_agree d x (λ u l. h u (omega arith))) in
      rw (f, h d (omega arith))
