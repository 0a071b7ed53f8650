-- Laws of the depth: the least level that is enough, the levels needed for it, and the search for it.
use mathlib.Core.Path.{◌≡◌, sym}
use mathlib.Core.Bool.{Bool, true, false, ◌||◌, true≢false}
use mathlib.Core.Logic.{⊎_elim}
use Prim.Native.Nat.{ℕ, zero, suc, ◌+◌, ◌-◌, ◌^◌, ◌≤◌, ◌<◌, min, zero-le}
use native.Mathlib.Nat.{eq-or-lt_of_le, eq-zero-or-pos, le_refl, le_step, le-suc, le_trans, lt_of_le_of_lt, not-suc-le-zero, not-le_of_lt, pow-le-pow_right}
use native.Mathlib.Decide.{le_ind}
use native.Mathlib.Omega.{arith}
use lib.Dec.{ltb, eqb, lit<}
use borrow.Author.Tests.{le-leb, lt-leb, leb-true, leb-false, lt-ltb, le-ltb, ltb-true, ltb-false, eq-eqb, ne_eqb, eqb-true, eqb-false}
use Rattle.std.proofs.lemmas.Bool.{cases_lt}
use Rattle.numbers.proofs.Least.{least_le, least_before, least_at, least_is}
use Rattle.node_info.specs.Capacity.{subtree_capacity, node_capacity}
use Rattle.node_info.specs.Table.{info_at}
use Rattle.node_info.specs.declared.NodeInfo.{NodeInfo}
use Rattle.node_info.proofs.Capacities.{node_zero, subtree_zero, subtree_suc, node_falls, subtree_none, subtree_power, subtree_rises}
use Rattle.plan.specs.Planned.{plan_depth, empty_level}
use Rattle.plan.specs.Steps.{Passed, Found}
use Rattle.plan.proofs.Thin.{Levels}
use Rattle.node_info.specs.declared.Geometry.{Geometry}

-- 3^(u + 1) is far from being saturated at 2^64 - 1.
unsaturated : (u c : ℕ) → u < 32 → min (3 ^ (u + 1) - 1) (2 ^ 64 - 1) ≤ c → 3 ^ (u + 1) ≤ c + 1
unsaturated u c h l =
    let small : 3 ^ (u + 1) ≤ 3 ^ 32 = pow-le-pow_right {n = 3} (lit< tt) {i = u + 1} {j = 32} (omega arith) in omega arith

module _ (n : ℕ) (g : Geometry) where
  -- C and M of the levels.
  abbrev c : ℕ → ℕ
  c = subtree_capacity g

  abbrev m : ℕ → ℕ
  m = node_capacity g

  -- The depth is 32 at most; each level below is too small, and below 32 the depth is enough.
  pub depth_le : plan_depth n g ≤ 32
  unfolding plan_depth
  depth_le = least_le _ 32 0

  pub depth_small : (u : ℕ) → u < plan_depth n g → subtree_capacity g u < n
  unfolding plan_depth
  depth_small u h = leb-false n (c u) (least_before _ 32 0 u zero-le h)

  depth_enough : plan_depth n g < 32 → n ≤ c (plan_depth n g)
  unfolding plan_depth
  depth_enough h = leb-true n _ (least_at _ 32 0 h)

  depth_is : (u : ℕ) → u < 32 → ((v : ℕ) → v < u → c v < n) → n ≤ c u → plan_depth n g ≡ u
  unfolding plan_depth
  depth_is u h below enough = least_is _ 32 0 u zero-le h (λ v _ l. lt-leb n (c v) (below v l)) (le-leb n (c u) enough)

  pub depth_none : n ≡ 0 → plan_depth n g ≡ 0
  depth_none e = depth_is 0 (lit< tt) (λ v l. absurd (not-suc-le-zero l)) (rw e zero-le)

  -- Each level before the first that holds none holds records, and that one none where it is needed.
  empty_before : (u : ℕ) → u < empty_level n g → 0 < m u
  unfolding empty_level
  empty_before u h = let none = eqb-false (m u) 0 (least_before _ (plan_depth n g + 1) 0 u zero-le h) in omega arith

  empty_at : empty_level n g ≤ plan_depth n g → m (empty_level n g) ≡ 0
  unfolding empty_level
  empty_at h = eqb-true (m _) 0 (least_at (λ u. eqb (m u) 0) (plan_depth n g + 1) 0 (omega arith))

  empty_is : (u : ℕ) → u ≤ plan_depth n g → ((v : ℕ) → v < u → 0 < m v) → m u ≡ 0 → empty_level n g ≡ u
  unfolding empty_level
  empty_is u h below none =
      least_is _ (plan_depth n g + 1) 0 u zero-le (omega arith) (λ v _ l. ne_eqb (m v) 0 (λ e. omega (arith, below v l))) (eq-eqb (m u) 0 none)

  -- A level that is enough holds records where the levels below are too small, unless there are none.
  enough_some : (u : ℕ) → 0 < n → n ≤ c u → ((v : ℕ) → v < u → c v < n) → 0 < m u
  enough_some zero p h below = rw (node_zero, ← subtree_zero g) (le_trans p h)
  enough_some (suc u) p h below =
      ⊎_elim
      (λ (e : m (suc u) ≡ 0). absurd (not-le_of_lt (below u (le_refl (suc u))) (le_trans h (subtree_none g u e))))
      (λ (q : 0 < m (suc u)). q)
      (eq-zero-or-pos (m (suc u)))

  -- The test for refusal 10.
  abbrev pub holding : Bool
  holding = eqb n 0 || ltb (plan_depth n g) (empty_level n g)

  -- The search stands at level u: each level below is too small and holds records.
  abbrev pub Tried : ℕ → Type 0
  Tried u = (v : ℕ) → v < u → (subtree_capacity g v < n) × (0 < node_capacity g v)

  pub tried_none : Tried 0
  tried_none v h = absurd (not-suc-le-zero h)

  pub tried_next : (u : ℕ) → Tried u → subtree_capacity g u < n → 0 < node_capacity g u → Tried (u + 1)
  tried_next u tried small some v h =
      ⊎_elim (λ (e : v ≡ u). rw e (small, some)) (λ (l : v < u). tried v l) (eq-or-lt_of_le (omega arith))

  module _ (u : ℕ) (low : u ≤ 23) (tried : Tried u) (info : NodeInfo) (table : info ≡ info_at g u) where
    -- The level is enough.
    enough_test : n ≤ c u → plan_depth n g ≡ u → holding ≡ true
    enough_test h deep =
        ⊎_elim
        (λ (e : n ≡ 0). rw (eq-eqb n 0 e))
        (λ (p : 0 < n).
        rw (ne_eqb n 0 (λ e. omega arith))
        (lt-ltb _ _
        (⊎_elim
        (λ (l : plan_depth n g < empty_level n g). l)
        (λ (l : empty_level n g ≤ plan_depth n g).
        let none = empty_at l in
        absurd (⊎_elim
        (λ (at : empty_level n g ≡ u). let some = enough_some u p h (λ v b. (tried v b).0) in omega (arith, rw at at none))
        (λ (below : empty_level n g < u). omega (arith, (tried _ below).1))
        (eq-or-lt_of_le (omega arith))))
        (cases_lt (plan_depth n g) (empty_level n g)))))
        (eq-zero-or-pos n)

    pub found_enough : n ≤ subtree_capacity g u → Found n g info u
    found_enough h =
        let deep = depth_is u (omega arith) (λ v l. (tried v l).0) h in
        record { low = low; table = table; holds = enough_test h deep; is_depth = sym deep }

    -- It is not, and holds none.
    module _ (small : subtree_capacity g u < n) (none : node_capacity g u ≡ 0) where
      beyond : u ≤ plan_depth n g
      beyond =
          ⊎_elim
          (λ (l : plan_depth n g < u). absurd (not-le_of_lt (tried _ l).0 (depth_enough (omega arith))))
          (λ (l : u ≤ plan_depth n g). l)
          (cases_lt (plan_depth n g) u)

      pub empty_here : empty_level n g ≡ u
      empty_here = empty_is u beyond (λ v l. (tried v l).1) none

      pub empty_test : holding ≡ false
      empty_test = rw (ne_eqb n 0 (λ e. omega arith), empty_here, le-ltb (plan_depth n g) u beyond)

  module _ (pass : Passed n g) where
    -- A level that holds records and is too small lies below 23.
    pub level_low : (u : ℕ) → c u < n → 0 < m u → u < 23
    level_low u small some =
        ⊎_elim
        (λ (h : u < 23). h)
        (λ (h : 23 ≤ u).
        absurd (omega (arith, pass.few, subtree_power g pass.some 1 23 (le_trans some (node_falls g pass.some h)), subtree_rises g (omega (arith, pass.high)) h)))
        (cases_lt u 23)

    -- Where each level needed for the depth holds records, the depth is 23 at most, and enough.
    module _ (test : holding ≡ true) where
      needed : 0 < n → (u : ℕ) → u ≤ plan_depth n g → 0 < m u
      needed p u h =
          let deep : plan_depth n g < empty_level n g = ltb-true _ _ (rw (ne_eqb n 0 (λ e. omega arith)) at test) in empty_before u (omega arith)

      pub depth_holds : (u : ℕ) → u < plan_depth n g → 0 < node_capacity g (suc u)
      depth_holds u h = needed (omega (arith, depth_small u h)) (suc u) h

      pub depth_le_23 : plan_depth n g ≤ 23
      depth_le_23 =
          ⊎_elim
          (λ (h : 23 < plan_depth n g).
          let small = depth_small 23 h in omega (arith, level_low 23 small (needed (omega arith) 23 (omega arith))))
          (λ (h : plan_depth n g ≤ 23). h)
          (cases_lt 23 (plan_depth n g))

      pub depth_holds_all : n ≤ subtree_capacity g (plan_depth n g)
      depth_holds_all = depth_enough (omega (arith, depth_le_23))

    -- Where one of them holds none, no level at all is enough.
    module _ (test : holding ≡ false) where
      empty_needed : (0 < n) × (empty_level n g ≤ plan_depth n g)
      empty_needed =
          ⊎_elim
          (λ (e : n ≡ 0). absurd (true≢false (rw (eq-eqb n 0 e) at test)))
          (λ (p : 0 < n). (p, ltb-false _ _ (rw (ne_eqb n 0 (λ e. omega arith)) at test)))
          (eq-zero-or-pos n)

      pub empty_none : node_capacity g (empty_level n g) ≡ 0
      empty_none = empty_at empty_needed.1

      empty_small : c (empty_level n g) < n
      empty_small =
          ⊎_elim
          (λ (l : c (empty_level n g) < n). l)
          (λ (h : n ≤ c (empty_level n g)).
          let some = enough_some (empty_level n g) empty_needed.0 h (λ v l. depth_small v (omega (arith, empty_needed.1))) in
          absurd (omega (arith, empty_none)))
          (cases_lt (c (empty_level n g)) n)

      pub never_enough : (u : ℕ) → subtree_capacity g u < n
      never_enough u =
          ⊎_elim
          (λ (l : u < empty_level n g). depth_small u (omega (arith, empty_needed.1)))
          (le_ind (λ (k : ℕ). c k < n) empty_small
          (λ k l r. lt_of_le_of_lt (subtree_none g k (omega (arith, node_falls g pass.some (le_step l), empty_none))) r)
          u)
          (cases_lt u (empty_level n g))

  -- What the levels of a plan hold.
  pub depth_levels : 0 < g.record_size → ((u : ℕ) → u < plan_depth n g → 0 < node_capacity g (suc u))
      → Levels (subtree_capacity g) (node_capacity g) (plan_depth n g)
  depth_levels some holds =
      record {
        leaf = rw (subtree_zero, node_zero) (le_refl _);
        most = λ u h. rw (subtree_suc g u) (omega arith);
        some = holds;
        room = λ u h two. unsaturated u (subtree_capacity g u) (omega (arith, depth_le))
            (subtree_power g some 2 u (le_trans two (node_falls g some (le-suc u))));
      }
