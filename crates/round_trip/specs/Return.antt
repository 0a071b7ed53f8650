-- The complete return of records: what is read back out of a file in which the header and the nodes of a write stand. From document 01,
-- "Collecting".
use Rattle.std.specs.Prelude.{◌≡◌, ℕ, ◌+◌, ◌*◌, ◌≤◌, List, ◌++◌, drop}
use Rattle.numbers.specs.Numbers.{part}
use Rattle.refusal.specs.Answer.{accepted}
use Rattle.plan.specs.Tree.{leaves}
use Rattle.btree_v2_collect.specs.Walk.{Counts, fine}
use Rattle.format.specs.declared.Request.{Request}
use Rattle.format.specs.Bytes.{header_size}
use Rattle.format.specs.Request.{depth_of, tree_of, nodes_of, image_of, root_of, root_records_of, header_from}
use Rattle.btree_v2_header.specs.declared.BTreeV2Header.{BTreeV2Header}
use Rattle.btree_v2_header.specs.Header.{header_figures, header_at, parsed}
use Rattle.btree_v2_collect.specs.Collect.{collected}

-- The header stands whole at o, and the nodes from start on. No byte beside these is spoken of, and the two may lie anywhere.
pub record Stands (q : Request) (recs file : List ℕ) (o : ℕ) : Type 0 where
  pub header : part file o (header_size q.geometry.offset_size q.length_size) ≡ header_from q
  pub nodes : part file q.start (nodes_of q * q.geometry.node_size) ≡ image_of q recs

-- The header that was written, with base 0: type, node size, record size and record count as given, the plan's depth, and the address and
-- record count of the plan's last node, the root.
unfoldable pub header_written : Request → BTreeV2Header
header_written q =
    record {
      tree_type = q.tree_type;
      geometry = q.geometry;
      depth = depth_of q;
      root_node_address = root_of q;
      num_records_in_root = root_records_of q;
      total_records = q.record_count;
      base = 0;
    }

-- What both readers give: the header as written; all records at the front of the output, in order, its other bytes as they were; and the
-- counts.
pub record Returned (q : Request) (recs file : List ℕ) (o : ℕ) (out : List ℕ) : Type 0 where
  pub counts : Counts
  pub header : parsed file o q.geometry.offset_size q.length_size ≡ accepted (header_figures (header_written q))
  pub fields : header_at file o q.geometry.offset_size q.length_size ≡ header_written q
  pub output : collected file (header_written q) out ≡ fine counts (recs ++ drop (q.record_count * q.geometry.record_size) out)
  pub records : counts.records ≡ q.record_count
  pub leaves_planned : counts.leaves ≡ leaves (depth_of q) (tree_of q)
  pub one_more : counts.leaves ≡ counts.internal_records + 1
  pub all_nodes : counts.leaves + counts.internals ≡ nodes_of q
  pub at_most : nodes_of q ≤ q.record_count
