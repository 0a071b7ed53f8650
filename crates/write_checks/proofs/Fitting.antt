-- The nodes of an accepted write: they fit the node size, and what their pointers tell fits the pointers' fields; the image's length.
use mathlib.Core.Path.{◌≡◌}
use mathlib.Core.List.{List}
use Prim.Native.Nat.{ℕ, zero, suc, ◌*◌, ◌≤◌, ◌<◌}
use native.Mathlib.Nat.{le_refl, le_trans, zero-add, mul-le-mul_left}
use native.Mathlib.Omega.{arith}
use lib.ListN.{length}
use Rattle.node_info.specs.Capacity.{leaf_capacity, subtree_capacity, node_capacity}
use Rattle.node_info.proofs.Capacities.{node_le_leaf, count_fits, total_fits, leaf_bytes_lem, internal_bytes_lem}
use Rattle.plan.specs.Tree.{Tree, count, size, Everywhere}
use Rattle.plan.specs.Planned.{planned}
use Rattle.plan.proofs.Checks.{Plannable, accepted_plannable}
use Rattle.plan.proofs.Plans.{plan_size, plan_filled}
use Rattle.plan.proofs.Depths.{depth_le}
use Rattle.plan.proofs.Accepted.{planned_within}
use Rattle.plan.proofs.Trees.{everywhere_root, everywhere_both, Filled, Within}
use Rattle.format.specs.declared.Request.{Request}
use Rattle.format.specs.Request.{depth_of, nodes_of, image_of, root_records_of}
use Rattle.write_checks.proofs.Accepted.{Accepts}
use Rattle.format.specs.Fit.{node_length, Fit}
use Rattle.format.proofs.Lengths.{Room, length_image}

module _ (q : Request) where
  -- The capacities of a node and of a subtree by the level, and the planned tree.
  abbrev pub most : ℕ → ℕ
  most = node_capacity q.geometry

  abbrev pub whole : ℕ → ℕ
  whole = subtree_capacity q.geometry

  abbrev pub tree : Tree (depth_of q)
  tree = planned q.record_count q.geometry

  -- A node within the capacities fits the node size, and what its pointer tells fits the pointer's fields.
  module _ (plan : Plannable q.record_count q.geometry) where
    abbrev WithinBoth : (u : ℕ) → Tree u → Type 0
    WithinBoth u t = (count u t ≤ most u) × (size u t ≤ whole u)

    low : 10 ≤ q.geometry.node_size
    low = omega arith

    high : q.geometry.node_size ≤ 65536
    high = omega arith

    pub positive : 0 < q.geometry.record_size
    positive = omega arith

    node_fits : (u : ℕ) (t : Tree u) → WithinBoth u t → 1 ≤ count u t → node_length q.geometry u (count u t) ≤ q.geometry.node_size
    node_fits zero t w f = leaf_bytes_lem q.geometry (count 0 t) low w.0
    node_fits (suc u) t w f = internal_bytes_lem q.geometry u (count (suc u) t) (omega arith) w.0

    records_fit : (u k : ℕ) → node_length q.geometry u k ≤ q.geometry.node_size → k < 65536
    records_fit zero k h = omega (arith, high, mul-le-mul_left k positive)
    records_fit (suc u) k h = omega (arith, high, mul-le-mul_left k positive)

    fit : (u : ℕ) (t : Tree u) → WithinBoth u t → 1 ≤ count u t → Fit q.geometry u t
    fit u t w f =
        record {
          node = node_fits u t w f;
          records = count_fits q.geometry positive (omega (arith, high)) u (count u t) w.0;
          small = records_fit u (count u t) (node_fits u t w f);
          total = λ h. total_fits q.geometry u (size u t) h w.1;
        }

  -- An accepted write of one record or more.
  module _ (recs : List ℕ) (a : Accepts q recs) (some : 1 ≤ q.record_count) where
    pub plan : Plannable q.record_count q.geometry
    plan = (accepted_plannable q.record_count q.geometry a.figures a.plan).0

    pub sized : size (depth_of q) tree ≡ q.record_count
    unfolding planned
    sized = plan_size whole (depth_of q) q.record_count (plan.thick some)

    pub filled : Filled (depth_of q) tree
    unfolding planned
    filled = plan_filled whole (depth_of q) q.record_count (plan.thick some)

    pub within : Within most whole (depth_of q) tree
    within = planned_within q.record_count q.geometry plan

    pub fits : Everywhere (Fit q.geometry) (depth_of q) tree
    fits = everywhere_both (WithinBoth plan) (λ u t. 1 ≤ count u t) (Fit q.geometry) (fit plan) (depth_of q) tree within filled

    pub root_some : 1 ≤ root_records_of q
    unfolding root_records_of
    root_some = everywhere_root (λ u t. 1 ≤ count u t) (depth_of q) tree filled

    pub root_within : root_records_of q ≤ leaf_capacity q.geometry
    unfolding root_records_of
    root_within = le_trans (everywhere_root (WithinBoth plan) (depth_of q) tree within).0 (node_le_leaf q.geometry (positive plan) (depth_of q))

    pub deep : depth_of q ≤ 32
    deep = depth_le q.record_count q.geometry

    pub room : Room q recs 0 (size (depth_of q) tree)
    room = rw (zero-add, sized, a.records) (le_refl (q.record_count * q.geometry.record_size))

    pub image_long : length (image_of q recs) ≡ nodes_of q * q.geometry.node_size
    unfolding image_of nodes_of
    image_long = length_image q recs (depth_of q) tree 0 0 fits room
