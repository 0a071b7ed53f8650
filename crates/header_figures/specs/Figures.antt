-- The header that its figures tell: document 02, "Two", and the order of the header reader's answer.
use Rattle.std.specs.Prelude.{ℕ, ◌%◌, ◌^◌, List, get_or}
use Rattle.node_info.specs.declared.Geometry.{Geometry}
use Rattle.btree_v2_header.specs.declared.BTreeV2Header.{BTreeV2Header}

-- The sizes of a tree.
abbrev pub sizes : ℕ → ℕ → ℕ → Geometry
sizes ns rs ow = record { node_size = ns; record_size = rs; offset_size = ow }

-- The header that a collecting goes by.
abbrev pub given : ℕ → Geometry → ℕ → ℕ → ℕ → ℕ → ℕ → BTreeV2Header
given tree_type g depth root root_records records base =
    record {
      tree_type = tree_type;
      geometry = g;
      depth = depth;
      root_node_address = root;
      num_records_in_root = root_records;
      total_records = records;
      base = base;
    }

-- The header that its figures tell: type, NS, RS, depth, root address, root's records, N and base, in the order of the header reader's answer.
-- Where there are seven, the base is 0. A number above its field's range counts modulo that range.
abbrev pub header_from : List ℕ → ℕ → BTreeV2Header
header_from figures ow =
    given
    (get_or figures 0 0 % 2 ^ 8)
    (sizes (get_or figures 1 0 % 2 ^ 32) (get_or figures 2 0 % 2 ^ 16) ow)
    (get_or figures 3 0 % 2 ^ 16)
    (get_or figures 4 0)
    (get_or figures 5 0 % 2 ^ 16)
    (get_or figures 6 0)
    (get_or figures 7 0)
