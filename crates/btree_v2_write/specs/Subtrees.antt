-- The subtrees of a planned tree, as the function that writes one goes by them.
use Rattle.std.specs.Prelude.{◌≡◌, false, List, ℕ, ◌+◌, ◌*◌, ◌^◌, ◌≤◌, ◌<◌}
use Rattle.numbers.specs.Places.{stored}
use Rattle.node_info.specs.Capacity.{subtree_capacity, count_width, total_width}
use Rattle.node_info.specs.Table.{level_in}
use Rattle.node_info.specs.declared.NodeInfo.{NodeInfo}
use Rattle.plan.specs.Tree.{Tree, count, size, nodes, Everywhere}
use Rattle.plan.specs.Planned.{plan_tree, thin}
use Rattle.format.specs.Bytes.{image}
use Rattle.format.specs.Fit.{Fit}
use Rattle.format.specs.declared.Request.{Request}
use Rattle.btree_v2_write.specs.declared.node.Child.{Child}
use Rattle.btree_v2_write.specs.declared.node.Place.{Place}

-- What subtrees of each level hold.
abbrev pub capacities : Request → ℕ → ℕ
capacities q = subtree_capacity q.geometry

-- The subtree of depth d for n records, its nodes, and its image with node j and record r first.
abbrev pub subtree : Request → (d : ℕ) → ℕ → Tree d
subtree q d n = plan_tree (capacities q) d n

abbrev pub subtree_nodes : Request → ℕ → ℕ → ℕ
subtree_nodes q d n = nodes d (subtree q d n)

unfoldable pub subtree_image : Request → List ℕ → ℕ → ℕ → ℕ → ℕ → List ℕ
subtree_image q recs d n j r = image q recs d (subtree q d n) j r

-- A table that is right of the levels below level d: its count width, and of each level the capacity and the width of totals.
pub record RightBelow (q : Request) (t : NodeInfo) (d : ℕ) : Type 0 where
  pub counts : t.max_nrec_size ≡ count_width q.geometry
  pub caps : (u : ℕ) → u < d → (level_in t u).cum_max_nrec ≡ capacities q u
  pub widths : (u : ℕ) → u < d → (level_in t u).cum_max_nrec_size ≡ total_width q.geometry u

-- A subtree that can be written: its depth is 32 at most, its records are among 2^24, it is a leaf or not too thin, its
-- nodes fit, its records are in the list, its nodes in the image, and its addresses below 2^64.
pub record Ready (q : Request) (records image d n j r : ℕ) : Type 0 where
  pub low : d ≤ 32
  pub few : r + n < 2 ^ 24
  pub thick : 1 ≤ d → thin (capacities q) d n ≡ false
  pub fits : Everywhere (Fit q.geometry) d (subtree q d n)
  pub in_list : (r + n) * q.geometry.record_size ≤ records
  pub room : (j + subtree_nodes q d n) * q.geometry.node_size ≤ image
  pub short : q.start + (j + subtree_nodes q d n) * q.geometry.node_size < 2 ^ 64

-- The place after a subtree that was written at p, and the record that follows it.
abbrev pub after : Place → Child → Place
after p x = record { nodes = p.nodes + x.nodes; records = p.records + x.total + 1 }

-- A tree in numbers, as its writing returns it: the root's records, all records, and the nodes.
pub record ChildOf (d : ℕ) (t : Tree d) (x : Child) : Type 0 where
  pub records : x.records ≡ count d t
  pub total : x.total ≡ size d t
  pub nodes : x.nodes ≡ nodes d t

-- What the writing of a subtree leaves of an image, and returns.
pub record SubtreeWritten (q : Request) (recs entry exit : List ℕ) (d n j r : ℕ) (x : Child) : Type 0 where
  pub image : exit ≡ stored entry (j * q.geometry.node_size) (subtree_image q recs d n j r)
  pub child : ChildOf d (subtree q d n) x
