-- What the planner's private steps ask and give.
use Rattle.std.specs.Prelude.{◌≡◌, true, false, ◌||◌, List, length, slice_index_or, ℕ, ◌+◌, ◌-◌, ◌*◌, ◌^◌, ◌≤◌, ◌<◌, ltb, eqb}
use Rattle.numbers.specs.Numbers.{field_size}
use Rattle.refusal.specs.declared.Refusal.{Refusal}
use Rattle.refusal.specs.declared.Refusal.TheVariants.{LevelHoldsNone}
use Rattle.node_info.specs.Table.{info_at, no_level}
use Rattle.node_info.specs.declared.NodeInfo.{NodeInfo}
use Rattle.node_info.specs.declared.Level.{Level}
use Rattle.node_info.specs.declared.Geometry.{Geometry}
use Rattle.plan.specs.Tree.{nodes, leaves}
use Rattle.plan.specs.Planned.{plan_tree, thin, plan_depth, empty_level}
use Rattle.plan.specs.declared.Distribution.{Distribution}
use Rattle.plan.specs.declared.Counts.{Counts}

-- The numbers have passed refusals 4 and 7 to 9.
pub record Passed (n : ℕ) (g : Geometry) : Type 0 where
  pub offset : field_size g.offset_size ≡ true
  pub low : 10 ≤ g.node_size
  pub high : g.node_size ≤ 65536
  pub some : 0 < g.record_size
  pub few : n ≤ 16777215

-- The search for the depth has found it: each level needed for it holds records, and the table is that up to it.
pub record Found (n : ℕ) (g : Geometry) (info : NodeInfo) (depth : ℕ) : Type 0 where
  pub low : depth ≤ 23
  pub table : info ≡ info_at g depth
  pub holds : (eqb n 0 || ltb (plan_depth n g) (empty_level n g)) ≡ true
  pub is_depth : depth ≡ plan_depth n g

-- The search has ended without a depth: a level needed for it holds none, the cause tells the first such level, and the table is that up to it.
pub record HoldsNone (n : ℕ) (g : Geometry) (info : NodeInfo) (cause : Refusal) : Type 0 where
  pub low : empty_level n g ≤ 23
  pub table : info ≡ info_at g (empty_level n g)
  pub empty : (eqb n 0 || ltb (plan_depth n g) (empty_level n g)) ≡ false
  pub is_cause : cause ≡ LevelHoldsNone (empty_level n g)

-- The capacity of the subtrees of each of these levels.
abbrev pub capacity_in : List Level → ℕ → ℕ
capacity_in levels u = (slice_index_or levels u no_level).cum_max_nrec

-- n records in a subtree with these levels below its root can be counted: they are few, and no subtree is too thin.
pub record Countable (below : List Level) (n : ℕ) : Type 0 where
  pub few : n < 2 ^ 24
  pub thick : 0 < length below → thin (capacity_in below) (length below) n ≡ false

-- They have these nodes and leaves.
pub record Counted (below : List Level) (n : ℕ) (counts : Counts) : Type 0 where
  pub «nodes» : counts.nodes ≡ nodes (length below) (plan_tree (capacity_in below) (length below) n)
  pub «leaves» : counts.leaves ≡ leaves (length below) (plan_tree (capacity_in below) (length below) n)
  pub few_nodes : counts.nodes < 2 ^ 24
  pub few_leaves : counts.leaves < 2 ^ 24

-- A sum over a node's children, of `larger` for each that gets one record more, and of `smaller` for each of the others.
abbrev pub over_children : Distribution → ℕ → ℕ → ℕ
over_children distributed larger smaller =
    distributed.extra * larger + (distributed.kept + 1 - distributed.extra) * smaller

-- The nodes of a node's children can be added up: neither the children nor the nodes of one are many.
pub record FewChildren (distributed : Distribution) (larger smaller : Counts) : Type 0 where
  pub kept : distributed.kept < 2 ^ 24
  pub extra : distributed.extra ≤ distributed.kept
  pub larger_nodes : larger.nodes < 2 ^ 24
  pub larger_leaves : larger.leaves < 2 ^ 24
  pub smaller_nodes : smaller.nodes < 2 ^ 24
  pub smaller_leaves : smaller.leaves < 2 ^ 24
