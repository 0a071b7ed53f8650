-- Laws of the capacities and field widths of a tree's levels.
use mathlib.Core.Path.{◌≡◌, refl}
use Prim.Native.Nat.{ℕ, zero, suc, ◌+◌, ◌-◌, ◌*◌, ◌/◌, ◌^◌, ◌≤◌, ◌<◌, zero-le}
use native.Mathlib.Nat.{add-le-add, add-mul, add-sub_cancel, div-le_self, div-mul-le_self, le-div_iff_mul-le, le_refl, le_trans, lt_of_le_of_lt, mul-add}
use native.Mathlib.Nat.{mul_comm, mul-le-mul, mul-le-mul_left, mul-le-mul_right, not-suc-le-zero, one-le-pow, one-mul, pos_of_div-pos, pow-suc, pow-zero, sub-le, suc-add}
use native.Mathlib.Decide.{le_ind}
use native.Mathlib.Omega.{arith}
use lib.Arith.{mul_pred}
use Rattle.numbers.specs.Numbers.{saturated, width}
use Rattle.numbers.proofs.Numbers.{width_le, width_holds, width_mono, saturated_mono, saturated_add, saturated_mul}
use Rattle.node_info.specs.Capacity.{leaf_capacity, count_width, subtree, child_pointer_size, internal_capacity, subtree_capacity, total_width, node_capacity}
use Rattle.node_info.specs.declared.Geometry.{Geometry}

-- From one level to the next, so from a level to any above it.
rises : (f : ℕ → ℕ) → ((u : ℕ) → f u ≤ f (suc u)) → {u v : ℕ} → u ≤ v → f u ≤ f v
rises f step {u} {v} h = le_ind (λ (k : ℕ). f u ≤ f k) (le_refl (f u)) (λ k l r. le_trans r (step k)) v h

falls : (f : ℕ → ℕ) → ((u : ℕ) → f (suc u) ≤ f u) → {u v : ℕ} → u ≤ v → f v ≤ f u
falls f step {u} {v} h = le_ind (λ (k : ℕ). f k ≤ f u) (le_refl (f u)) (λ k l r. le_trans (step k) r) v h

-- A quotient rises with the number and falls with the divisor.
div_le : (a b : ℕ) {c d : ℕ} → 0 < c → a ≤ b → c ≤ d → a / d ≤ b / c
div_le a b {c} {d} p h l = (le-div_iff_mul-le p).1 (le_trans (mul-le-mul_left (a / d) l) (le_trans (div-mul-le_self a d) h))

-- A subtree holds no less than a child's; and how it grows, from children that hold b and a root that holds m at least.
subtree_child : (m c : ℕ) → c < 2 ^ 64 → c ≤ subtree m c
subtree_child m c h = rw (add-mul, one-mul) (omega arith)

subtree_grows : (m b n c : ℕ) → m ≤ n → saturated b ≤ c → saturated (b * (m + 1) + m) ≤ subtree n c
subtree_grows m b n c h l =
    rw (mul_comm b (m + 1), ← saturated_add ((m + 1) * b) m, ← saturated_mul (m + 1) b, saturated_add ((m + 1) * saturated b) m)
    (saturated_mono ((m + 1) * saturated b + m) ((n + 1) * c + n) (add-le-add (mul-le-mul (add-le-add h (le_refl 1)) l) h))

module _ (g : Geometry) where
  pub leaf_le : leaf_capacity g ≤ g.node_size
  unfolding leaf_capacity
  leaf_le = le_trans (div-le_self (g.node_size - 10) g.record_size) (sub-le g.node_size 10)

  pub count_width_le : count_width g ≤ 8
  unfolding count_width
  count_width_le = width_le _

  pub internal_le : (p : ℕ) → internal_capacity g p ≤ g.node_size
  unfolding internal_capacity
  internal_le p = le_trans (div-le_self (g.node_size - 10 - p) (g.record_size + p)) (omega arith)

module _ (g : Geometry) where
  -- The definitions, level by level.
  pub node_zero : node_capacity g 0 ≡ leaf_capacity g
  unfolding node_capacity
  node_zero = refl

  pub subtree_zero : subtree_capacity g 0 ≡ leaf_capacity g
  unfolding subtree_capacity
  subtree_zero = refl

  pub total_zero : total_width g 0 ≡ 0
  unfolding total_width
  total_zero = refl

  pub node_suc : (u : ℕ) → node_capacity g (suc u) ≡ internal_capacity g (child_pointer_size g (count_width g) (total_width g u))
  unfolding node_capacity
  node_suc u = refl

  pub subtree_suc : (u : ℕ)
      → subtree_capacity g (suc u) ≡ subtree (node_capacity g (suc u)) (subtree_capacity g u)
  unfolding subtree_capacity node_capacity total_width
  subtree_suc u = refl

  pub total_suc : (u : ℕ) → total_width g (suc u) ≡ width (subtree_capacity g (suc u))
  unfolding total_width
  total_suc u = refl

  saturated_subtree : (u : ℕ) → subtree_capacity g (suc u) < 2 ^ 64
  saturated_subtree u = rw subtree_suc (omega arith)

  pub subtree_lt : g.node_size < 2 ^ 64 → (u : ℕ) → subtree_capacity g u < 2 ^ 64
  subtree_lt h zero = rw subtree_zero (lt_of_le_of_lt (leaf_le g) h)
  subtree_lt h (suc u) = saturated_subtree u

  pub total_le : (u : ℕ) → total_width g u ≤ 8
  total_le zero = rw total_zero zero-le
  total_le (suc u) = rw total_suc (width_le _)

  -- C and T never fall with the level; a level whose nodes hold none adds nothing to C.
  subtree_up : (u : ℕ) → subtree_capacity g u < 2 ^ 64 → subtree_capacity g u ≤ subtree_capacity g (suc u)
  subtree_up u h = rw subtree_suc (subtree_child (node_capacity g (suc u)) (subtree_capacity g u) h)

  pub subtree_rises : g.node_size < 2 ^ 64 → {u v : ℕ} → u ≤ v → subtree_capacity g u ≤ subtree_capacity g v
  subtree_rises h = rises (subtree_capacity g) (λ u. subtree_up u (subtree_lt h u))

  pub subtree_none : (u : ℕ) → node_capacity g (suc u) ≡ 0 → subtree_capacity g (suc u) ≤ subtree_capacity g u
  subtree_none u e = rw (subtree_suc u, e, one-mul) (omega arith)

  total_up : (u : ℕ) → total_width g u ≤ total_width g (suc u)
  total_up zero = rw total_zero zero-le
  total_up (suc u) = rw (total_suc u, total_suc (suc u)) (width_mono _ _ (subtree_up (suc u) (saturated_subtree u)))

  pub total_rises : {u v : ℕ} → u ≤ v → total_width g u ≤ total_width g v
  total_rises = rises (total_width g) total_up

  -- A total fits its field, above the leaves.
  pub total_fits : (u n : ℕ) → 0 < u → n ≤ subtree_capacity g u → n < 256 ^ total_width g u
  total_fits zero n p h = absurd (not-suc-le-zero p)
  total_fits (suc u) n p h = rw total_suc (lt_of_le_of_lt h (width_holds _ (saturated_subtree u)))

  -- The bytes of a node fit: of a leaf, and of an internal node of level u + 1.
  pub leaf_bytes_lem : (n : ℕ) → 10 ≤ g.node_size → n ≤ node_capacity g 0 → 10 + n * g.record_size ≤ g.node_size
  unfolding node_capacity leaf_capacity
  leaf_bytes_lem n p h = omega (arith, mul-le-mul_right g.record_size h, div-mul-le_self (g.node_size - 10) g.record_size)

  pub internal_bytes_lem : (u n : ℕ) → 0 < node_capacity g (suc u) → n ≤ node_capacity g (suc u)
      → 10 + n * g.record_size + (n + 1) * child_pointer_size g (count_width g) (total_width g u) ≤ g.node_size
  unfolding node_capacity internal_capacity
  internal_bytes_lem u n p h =
      let t = child_pointer_size g (count_width g) (total_width g u) in
      let room : n * (g.record_size + t) ≤ g.node_size - 10 - t =
      le_trans (mul-le-mul_right (g.record_size + t) h) (div-mul-le_self (g.node_size - 10 - t) (g.record_size + t)) in
      rw (add-mul, one-mul) (omega (arith, pos_of_div-pos (g.record_size + t) p, rw mul-add at room))

  -- For records of a byte or more M never rises with the level, the leaves' included; so a count fits its field, and nodes of m records
  -- or more make C at least a power, as far as it is not saturated.
  module _ (pos : 0 < g.record_size) where
    node_down : (u : ℕ) → node_capacity g (suc u) ≤ node_capacity g u
    unfolding node_capacity internal_capacity leaf_capacity
    node_down zero = div_le _ _ pos (sub-le _ _) (omega arith)
    node_down (suc u) = div_le _ _ (omega arith) (omega (arith, total_up u)) (omega (arith, total_up u))

    pub node_falls : {u v : ℕ} → u ≤ v → node_capacity g v ≤ node_capacity g u
    node_falls = falls (node_capacity g) node_down

    pub node_le_leaf : (u : ℕ) → node_capacity g u ≤ leaf_capacity g
    node_le_leaf u = rw node_zero at (node_falls {u = 0} {v = u} zero-le)

    pub count_fits : g.node_size < 2 ^ 64 → (u n : ℕ) → n ≤ node_capacity g u → n < 256 ^ count_width g
    unfolding count_width
    count_fits l u n h =
        lt_of_le_of_lt (le_trans h (node_le_leaf u)) (width_holds (leaf_capacity g) (lt_of_le_of_lt (leaf_le g) l))

    pub subtree_power : (m u : ℕ) → m ≤ node_capacity g u → saturated ((m + 1) ^ (u + 1) - 1) ≤ subtree_capacity g u
    subtree_power m zero h =
        rw (subtree_zero, ← node_zero, pow-suc (m + 1) 0, pow-zero, one-mul) (omega arith)
    subtree_power m (suc u) h =
        let q = (m + 1) ^ (u + 1) in
        let e : (m + 1) ^ (suc u + 1) - 1 ≡ (q - 1) * (m + 1) + m =
        rw (suc-add u 1, pow-suc (m + 1) (u + 1), mul_pred {p = q} {c = m + 1} (one-le-pow (u + 1) (m + 1) (omega arith)) (omega arith), add-sub_cancel) in
        rw (e, subtree_suc u) (subtree_grows m (q - 1) _ _ h (subtree_power m u (le_trans h (node_down u))))
