-- The bytes that a write of a request makes: its nodes, its root and its header. From document 01, "Header and node image".
use Rattle.std.specs.Prelude.{ℕ, List}
use Rattle.plan.specs.Tree.{Tree, count, below, nodes}
use Rattle.plan.specs.Planned as planner
use Rattle.format.specs.Bytes.{address, image, header_bytes}
use Rattle.format.specs.declared.Request.{Request}

module _ (q : Request) where
  -- The planned tree, its depth and its number of nodes.
  abbrev pub depth_of : ℕ
  depth_of = planner.plan_depth q.record_count q.geometry

  abbrev pub tree_of : Tree depth_of
  tree_of = planner.planned q.record_count q.geometry

  unfoldable pub nodes_of : ℕ
  nodes_of = nodes depth_of tree_of

  -- The bytes of the image.
  unfoldable pub image_of : List ℕ → List ℕ
  image_of recs = image q recs depth_of tree_of 0 0

  -- The address of the root, the plan's last node, and its record count.
  unfoldable pub root_of : ℕ
  root_of = address q (below depth_of tree_of)

  unfoldable pub root_records_of : ℕ
  root_records_of = count depth_of tree_of

  -- The bytes of the header.
  unfoldable pub header_from : List ℕ
  header_from = header_bytes q depth_of root_of root_records_of q.record_count
