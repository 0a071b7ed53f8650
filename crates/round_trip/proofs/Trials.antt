-- The definitions computed on small trees and files, beside the answers due. Bytes, headers read, records collected and the reading calls'
-- refusals 1 to 6 with their figures are what the Rust gave for the same input; counts, what a refused collecting leaves, and a write's
-- refusals and 8, 15 and 16, and looks, are document 01's, 18 and the refusal of a leaf without its checksum are document 02's.
use mathlib.Core.Path.{◌≡◌, refl}
use mathlib.Core.List.{List, [], ◌∷◌, ◌++◌, reverse}
use Prim.Native.Nat.{ℕ, zero, suc, ◌+◌, ◌-◌, ◌*◌, ◌%◌}
use lib.ListN.{length, take, set, replicate}
use Rattle.checksum.proofs.Promise.{lookup3, computed}
use Rattle.numbers.specs.Numbers.{pick, le, unle, num, least_from, width, field_size}
use Rattle.numbers.specs.Places.{stored, over}
use Rattle.refusal.specs.Answer.{cells}
use Rattle.node_info.specs.Capacity.{leaf_capacity, count_width, internal_capacity, subtree_capacity, total_width, node_capacity}
use Rattle.plan.specs.Tree.{sum_kids, between, count, size, below, nodes, leaves}
use Rattle.plan.specs.Planned.{taken, distributed, children, kids_of, plan_tree, any_of, thin, plan_depth, empty_level, planned, plan_figures, plan_answer}
use Rattle.format.specs.Bytes.{summed, padded, pointer_bytes, address, record_range, leaf_bytes, pointer, pointers, own_records, internal_bytes, kids_image, image, header_bytes}
use Rattle.format.specs.declared.Request.{Request}
use Rattle.format.specs.Request.{nodes_of, image_of, root_of, root_records_of, header_from}
use Rattle.write_checks.specs.Writing.{write_answer, written, header_exit, image_exit}
use Rattle.btree_v2_collect.specs.Walk.{Run, put_record, records_put, leaf_run, child_run, own_record_run, children_run, node_run}
use Rattle.btree_v2_internal.specs.Internal.{pointer_place, child_address, child_records, internal_body, internal_test}
use Rattle.read_checks.specs.Tests.{same, front_test, checksum_test, root_test}
use Rattle.btree_v2_header.specs.declared.BTreeV2Header.{BTreeV2Header}
use Rattle.read_checks.specs.Base.{on_part}
use Rattle.btree_v2_header.specs.Header.{header_at, with_base, parsed, parsed_at}
use Rattle.btree_v2_leaf.specs.Leaf.{leaf_body, leaf_test}
use Rattle.btree_v2_leaf_view.specs.Look.{look_test, look_bytes, record_seen, record_answer, record_exit, record_answer_at, record_exit_at}
use Rattle.btree_v2_collect.specs.Collect.{collect_tests, collected, collected_at, run_cells, run_output}

-- w bytes as a hexadecimal number shows them, and nodes of w bytes one after another.
dump : ℕ → ℕ → List ℕ
dump w x = reverse (le w x)

dumps : ℕ → List ℕ → List ℕ
dumps w [] = []
dumps w (x ∷ xs) = dump w x ++ dumps w xs

-- The first n bytes of all records here, and what a lent buffer holds before the call.
ramp_from : ℕ → ℕ → List ℕ
ramp_from zero x = []
ramp_from (suc n) x = x ∷ ramp_from n ((x + 37) % 256)

ramp : ℕ → List ℕ
ramp n = ramp_from n 11

lent : ℕ → List ℕ
lent n = replicate n 170

-- A trial: what the definitions give and what is due.
record Trial : Type 0 where
  found : List ℕ
  due : List ℕ

-- An accepted write, into buffers that are longer by 3 and 2 bytes.
writing : Request → List ℕ → List ℕ → List ℕ → Trial
writing q figures header nodes =
    let recs = ramp (q.record_count * q.geometry.record_size) in
    let h = lent (length header + 3) in
    let i = lent (length nodes + 2) in
    record {
      found = cells 5 (written q recs h i) ++ (header_exit q recs h i ++ image_exit q recs h i);
      due = (0 ∷ figures) ++ ((header ++ lent 3) ++ (nodes ++ lent 2));
    }

-- A larger write by the checksums of its header and its image: in this one a subtree's total has two bytes.
summing : Request → ℕ → ℕ → Trial
summing q header nodes =
    record { found = lookup3 (header_from q) ∷ lookup3 (image_of q (ramp (q.record_count * q.geometry.record_size))) ∷ []; due = header ∷ nodes ∷ [] }

-- A refused write, by the lengths of the three buffers.
refusing : Request → ℕ → ℕ → ℕ → List ℕ → Trial
refusing q recs_length header_length image_length answer =
    record { found = cells 3 (write_answer q recs_length header_length image_length); due = answer }

-- A header read.
reading : List ℕ → ℕ → ℕ → ℕ → List ℕ → Trial
reading file o ow lw answer = record { found = cells 8 (parsed file o ow lw); due = answer }

reading_at : List ℕ → ℕ → ℕ → ℕ → ℕ → List ℕ → Trial
reading_at file base o ow lw answer = record { found = cells 9 (parsed_at file base o ow lw); due = answer }

-- A collecting into an output of n bytes, of which the first k are then the records put out.
ending : Run → ℕ → List ℕ → ℕ → Trial
ending r n answer k = record { found = run_cells r ++ run_output r; due = answer ++ (ramp k ++ lent (n - k)) }

collecting : List ℕ → BTreeV2Header → ℕ → List ℕ → ℕ → Trial
collecting file h n answer k = ending (collected file h (lent n)) n answer k

collecting_at : List ℕ → ℕ → BTreeV2Header → ℕ → List ℕ → ℕ → Trial
collecting_at file base h n answer k = ending (collected_at file (with_base base h) (lent n)) n answer k

-- A look at record 0 of a leaf at 0 with n records of 8 bytes, into an output of 8 bytes, of which the first k are then the record.
looking : List ℕ → ℕ → ℕ → List ℕ → ℕ → Trial
looking file base n answer k =
    record {
      found = cells 3 (record_answer_at file base 8 0 n 0 (lent 8)) ++ record_exit_at file base 8 0 n 0 (lent 8);
      due = answer ++ (ramp k ++ lent (8 - k));
    }

request : ℕ → ℕ → ℕ → ℕ → ℕ → ℕ → ℕ → Request
request tree_type n rs ns ow lw start =
    record {
      tree_type = tree_type;
      record_count = n;
      geometry = record { node_size = ns; record_size = rs; offset_size = ow };
      length_size = lw;
      start = start;
    }

header : ℕ → ℕ → ℕ → ℕ → ℕ → ℕ → ℕ → BTreeV2Header
header ns rs ow depth root root_records records =
    record {
      tree_type = 6;
      geometry = record { node_size = ns; record_size = rs; offset_size = ow };
      depth = depth;
      root_node_address = root;
      num_records_in_root = root_records;
      total_records = records;
      base = 0;
    }

-- What the Rust wrote: 40/8/8 with 3 records; 40/8/2 with 4; 40/8/8 with 8, to stand behind 7 bytes and the header; 26/8/4 with 2; 10/8/8
-- with none.
three_header : List ℕ
three_header = dump 38 0x4254484400052800000008000000642800000000000000000300030000000000000008aa5f0f

three_image : List ℕ
three_image = dump 40 0x42544c4600050b30557a9fc4e90e33587da2c7ec11365b80a5caef14395ef7e5e8fb000000000000

four_header : List ℕ
four_header = dump 26 0x42544844000828000000080001006428d7ff01000400381e8a96

four_image : List ℕ
four_image =
    dumps 40
    (0x42544c4600080b30557a9fc4e90e33587da2c7ec113622296d8c0000000000000000000000000000
    ∷ 0x42544c46000883a8cdf2173c6186b27abe4b00000000000000000000000000000000000000000000
    ∷ 0x4254494e00085b80a5caef14395e87ff02afff01256bcbc600000000000000000000000000000000
    ∷ [])

eight_header : List ℕ
eight_header = dump 38 0x425448440006280000000800020064281d01000000000000010008000000000000000dad97a6

eight_image : List ℕ
eight_image =
    dumps 40
    (0x42544c4600060b30557a9fc4e90e33587da2c7ec113658bca6600000000000000000000000000000
    ∷ 0x42544c46000683a8cdf2173c61866327beb400000000000000000000000000000000000000000000
    ∷ 0x4254494e00065b80a5caef14395e2d00000000000000025500000000000000014bf658be00000000
    ∷ 0x42544c460006d3f81d42678cb1d6c42d209100000000000000000000000000000000000000000000
    ∷ 0x42544c46000623486d92b7dc0126cc74306500000000000000000000000000000000000000000000
    ∷ 0x4254494e0006fb20456a8fb4d9fea50000000000000001cd00000000000000012b047e9a00000000
    ∷ 0x4254494e0006abd0f51a3f6489ae7d000000000000000104f500000000000000010314a09e9b0000
    ∷ [])

eight_file : List ℕ
eight_file = ramp 7 ++ (eight_header ++ eight_image)

-- The nodes of the 8 records in another order, the leaves last, and with other addresses.
leaves_last : List ℕ
leaves_last =
    dumps 40
    (0x4254494e0006abd0f51a3f6489ae280000000000000001045000000000000000010369b7cfac0000
    ∷ 0x4254494e00065b80a5caef14395e780000000000000002a00000000000000001140431a900000000
    ∷ 0x4254494e0006fb20456a8fb4d9fec80000000000000001f000000000000000017da0038300000000
    ∷ 0x42544c4600060b30557a9fc4e90e33587da2c7ec113658bca6600000000000000000000000000000
    ∷ 0x42544c46000683a8cdf2173c61866327beb400000000000000000000000000000000000000000000
    ∷ 0x42544c460006d3f81d42678cb1d6c42d209100000000000000000000000000000000000000000000
    ∷ 0x42544c46000623486d92b7dc0126cc74306500000000000000000000000000000000000000000000
    ∷ [])

two_header : List ℕ
two_header = dump 34 0x4254484400ff1a0000000800000064280700000002000200000000000000f0bdab69

two_image : List ℕ
two_image = dump 26 0x42544c4600ff0b30557a9fc4e90e33587da2c7ec113636d70c43

none_header : List ℕ
none_header = dump 34 0x4254484400000a0000000800000064280000000000010000000000000000d2d02a31

none_image : List ℕ
none_image = dump 10 0x42544c460000395c5443

writes : List Trial
writes =
    writing (request 5 3 8 40 8 8 0) (0 ∷ 1 ∷ 1 ∷ 40 ∷ []) three_header three_image
    ∷ writing (request 8 4 8 40 2 2 65415) (1 ∷ 3 ∷ 2 ∷ 120 ∷ []) four_header four_image
    ∷ writing (request 6 8 8 40 8 8 45) (2 ∷ 7 ∷ 4 ∷ 280 ∷ []) eight_header eight_image
    ∷ writing (request 255 2 8 26 4 8 7) (0 ∷ 1 ∷ 1 ∷ 26 ∷ []) two_header two_image
    ∷ writing (request 0 0 8 10 8 4 1099511627776) (0 ∷ 1 ∷ 1 ∷ 10 ∷ []) none_header none_image
    ∷ summing (request 9 280 1 44 2 4 100) 0xca859295 0x46aaec02
    ∷ refusing (request 0 3 0 9 3 1 0) 1 0 0 (4 ∷ 3 ∷ 0 ∷ [])
    ∷ refusing (request 0 3 0 9 8 1 0) 1 0 0 (5 ∷ 1 ∷ 0 ∷ [])
    ∷ refusing (request 0 16777216 0 9 8 8 0) 1 0 0 (7 ∷ 9 ∷ 0 ∷ [])
    ∷ refusing (request 0 16777216 0 65537 8 8 0) 1 0 0 (7 ∷ 65537 ∷ 0 ∷ [])
    ∷ refusing (request 0 16777216 0 65536 8 8 0) 1 0 0 (8 ∷ 0 ∷ 0 ∷ [])
    ∷ refusing (request 0 16777216 1 65536 8 8 0) 1 0 0 (9 ∷ 16777216 ∷ 0 ∷ [])
    ∷ refusing (request 0 3 8 26 8 8 0) 1 0 0 (10 ∷ 1 ∷ 0 ∷ [])
    ∷ refusing (request 0 1 8 17 8 8 0) 1 0 0 (10 ∷ 0 ∷ 0 ∷ [])
    ∷ refusing (request 0 4 20 48 8 8 0) 1 0 0 (10 ∷ 2 ∷ 0 ∷ [])
    ∷ refusing (request 0 2 20 48 8 8 0) 1 0 0 (11 ∷ 0 ∷ 0 ∷ [])
    ∷ refusing (request 0 65536 1 65536 2 2 9) 65535 0 0 (12 ∷ 65535 ∷ 0 ∷ [])
    ∷ refusing (request 0 65536 1 65536 2 2 9) 65536 0 0 (13 ∷ 65536 ∷ 0 ∷ [])
    ∷ refusing (request 0 65535 1 65536 2 2 9) 65535 0 0 (14 ∷ 9 ∷ 0 ∷ [])
    ∷ refusing (request 0 4 8 40 2 2 65416) 32 0 0 (14 ∷ 65416 ∷ 0 ∷ [])
    ∷ refusing (request 0 4 8 40 2 2 65415) 32 25 119 (15 ∷ 25 ∷ 0 ∷ [])
    ∷ refusing (request 0 4 8 40 2 2 65415) 32 26 119 (15 ∷ 119 ∷ 0 ∷ [])
    ∷ refusing (request 0 4 8 40 2 2 65415) 32 26 120 (0 ∷ 1 ∷ 3 ∷ [])
    ∷ []

reads : List Trial
reads =
    reading eight_file 7 8 8 (0 ∷ 6 ∷ 40 ∷ 8 ∷ 2 ∷ 285 ∷ 1 ∷ 8 ∷ [])
    ∷ reading (take 10 eight_file) 7 8 8 (1 ∷ 11 ∷ 10 ∷ zeros)
    ∷ reading (take 22 eight_file) 7 8 8 (1 ∷ 23 ∷ 22 ∷ zeros)
    ∷ reading (take 30 eight_file) 7 8 8 (1 ∷ 31 ∷ 30 ∷ zeros)
    ∷ reading (take 32 eight_file) 7 8 7 (1 ∷ 33 ∷ 32 ∷ zeros)
    ∷ reading (take 40 eight_file) 7 8 8 (1 ∷ 41 ∷ 40 ∷ zeros)
    ∷ reading (take 44 eight_file) 7 8 8 (1 ∷ 45 ∷ 44 ∷ zeros)
    ∷ reading eight_file 18446744073709551615 8 8 (1 ∷ 18446744073709551615 ∷ 325 ∷ zeros)
    ∷ reading (take 11 (set eight_file 10 69)) 7 8 8 (2 ∷ 0 ∷ 0 ∷ zeros)
    ∷ reading (set eight_file 11 3) 7 3 8 (3 ∷ 3 ∷ 0 ∷ zeros)
    ∷ reading (take 23 eight_file) 7 3 8 (4 ∷ 3 ∷ 0 ∷ zeros)
    ∷ reading (take 33 eight_file) 7 8 7 (5 ∷ 7 ∷ 0 ∷ zeros)
    ∷ reading (set eight_file 21 98) 7 8 8 (6 ∷ 2794958093 ∷ 303078907 ∷ zeros)
    ∷ reading (set (set (take 41 eight_file) 21 98) 22 30 ++ dump 4 0xa5e0f35e) 7 8 8 (0 ∷ 6 ∷ 40 ∷ 8 ∷ 2 ∷ 285 ∷ 1 ∷ 8 ∷ [])
    ∷ []
  where
    zeros : List ℕ
    zeros = 0 ∷ 0 ∷ 0 ∷ 0 ∷ 0 ∷ []

collects : List Trial
collects =
    eight eight_file 67 (0 ∷ 0 ∷ 0 ∷ 8 ∷ 4 ∷ 3 ∷ 3 ∷ []) 64
    ∷ eight eight_file 63 (15 ∷ 63 ∷ 0 ∷ 7 ∷ 4 ∷ 3 ∷ 3 ∷ []) 56
    ∷ eight eight_file 39 (15 ∷ 39 ∷ 0 ∷ 4 ∷ 2 ∷ 2 ∷ 1 ∷ []) 32
    ∷ eight eight_file 23 (15 ∷ 23 ∷ 0 ∷ 2 ∷ 1 ∷ 2 ∷ 0 ∷ []) 16
    ∷ eight eight_file 0 (15 ∷ 0 ∷ 0 ∷ 0 ∷ 1 ∷ 2 ∷ 0 ∷ []) 0
    ∷ eight (set eight_file 212 0) 64 (6 ∷ 1697674444 ∷ 870689798 ∷ 7 ∷ 3 ∷ 3 ∷ 3 ∷ []) 56
    ∷ eight (set eight_file 88 0) 64 (2 ∷ 0 ∷ 0 ∷ 3 ∷ 1 ∷ 2 ∷ 1 ∷ []) 24
    ∷ eight (set eight_file 245 0) 64 (2 ∷ 0 ∷ 0 ∷ 5 ∷ 2 ∷ 2 ∷ 2 ∷ []) 40
    ∷ eight (set (set (set (set eight_file 289 1) 290 99) 308 9) 322 1) 64 (0 ∷ 0 ∷ 0 ∷ 8 ∷ 4 ∷ 3 ∷ 3 ∷ []) 64
    ∷ eight (take 290 eight_file) 64 (1 ∷ 291 ∷ 290 ∷ none) 0
    ∷ eight (take 298 eight_file) 64 (1 ∷ 14 ∷ 13 ∷ none) 0
    ∷ eight (take 318 eight_file) 64 (1 ∷ 34 ∷ 33 ∷ none) 0
    ∷ eight (set (set eight_file 268 144) 269 1) 64 (1 ∷ 406 ∷ 325 ∷ 7 ∷ 3 ∷ 3 ∷ 3 ∷ []) 56
    ∷ collecting eight_file (header 40 8 8 2 285 4 8) 64 (1 ∷ 88 ∷ 40 ∷ none) 0
    ∷ collecting eight_file (header 40 8 8 2 18446744073709551615 1 8) 64 (1 ∷ 18446744073709551615 ∷ 325 ∷ none) 0
    ∷ collecting eight_file (header 40 8 3 2 285 1 8) 64 (4 ∷ 3 ∷ 0 ∷ none) 0
    ∷ collecting eight_file (header 40 0 8 33 285 1 8) 64 (8 ∷ 0 ∷ 0 ∷ none) 0
    ∷ collecting eight_file (header 40 8 8 33 285 1 8) 64 (16 ∷ 33 ∷ 0 ∷ none) 0
    ∷ collecting [] (header 40 0 8 33 285 0 8) 64 (0 ∷ 0 ∷ 0 ∷ none) 0
    ∷ collecting [] (header 40 0 8 33 285 1 0) 64 (0 ∷ 0 ∷ 0 ∷ none) 0
    ∷ leaf (take 34 three_image) (0 ∷ 0 ∷ 0 ∷ 3 ∷ 1 ∷ 0 ∷ 0 ∷ []) 24
    ∷ leaf (take 33 three_image) (1 ∷ 34 ∷ 33 ∷ none) 0
    ∷ leaf (set (take 33 three_image) 32 0) (1 ∷ 34 ∷ 33 ∷ none) 0
    ∷ leaf (take 30 three_image) (1 ∷ 34 ∷ 30 ∷ none) 0
    ∷ leaf (set (take 34 three_image) 33 0) (6 ∷ 15263223 ∷ 4226344439 ∷ none) 0
    ∷ leaf (take 29 three_image) (1 ∷ 30 ∷ 29 ∷ none) 0
    ∷ leaf (take 5 three_image) (1 ∷ 6 ∷ 5 ∷ none) 0
    ∷ collecting (dump 10 0x42544c460000eb9591bd) (header 40 1 3 0 0 1 1) 25 (1 ∷ 11 ∷ 10 ∷ none) 0
    ∷ pair last_of_one 6 (0 ∷ 0 ∷ 0 ∷ 4 ∷ 2 ∷ 1 ∷ 1 ∷ []) 4
    ∷ pair (take 36 last_of_one) 6 (1 ∷ 40 ∷ 36 ∷ 3 ∷ 1 ∷ 1 ∷ 1 ∷ []) 3
    ∷ pair (take 36 last_of_one) 3 (1 ∷ 40 ∷ 36 ∷ 3 ∷ 1 ∷ 1 ∷ 1 ∷ []) 3
    ∷ pair (take 36 last_of_one) 2 (15 ∷ 2 ∷ 0 ∷ 2 ∷ 1 ∷ 1 ∷ 0 ∷ []) 2
    ∷ pair last_of_none 6 (0 ∷ 0 ∷ 0 ∷ 3 ∷ 2 ∷ 1 ∷ 1 ∷ []) 3
    ∷ pair (take 38 last_of_none) 6 (1 ∷ 39 ∷ 38 ∷ 3 ∷ 1 ∷ 1 ∷ 1 ∷ []) 3
    ∷ pair (take 35 last_of_none) 6 (1 ∷ 39 ∷ 35 ∷ 3 ∷ 1 ∷ 1 ∷ 1 ∷ []) 3
    ∷ collecting (take 258 leaves_last) (header 40 8 8 2 0 1 8) 64 (0 ∷ 0 ∷ 0 ∷ 8 ∷ 4 ∷ 3 ∷ 3 ∷ []) 64
    ∷ collecting (take 257 leaves_last) (header 40 8 8 2 0 1 8) 64 (1 ∷ 258 ∷ 257 ∷ 7 ∷ 3 ∷ 3 ∷ 3 ∷ []) 56
    ∷ []
  where
    none : List ℕ
    none = 0 ∷ 0 ∷ 0 ∷ 0 ∷ []

    eight : List ℕ → ℕ → List ℕ → ℕ → Trial
    eight file n answer k = collecting file (header 40 8 8 2 285 1 8) n answer k

    leaf : List ℕ → List ℕ → ℕ → Trial
    leaf file answer k = collecting file (header 40 8 3 0 0 3 3) 25 answer k

    -- A root and two leaves, counts in three bytes: the last leaf, which ends the file, has one record or none.
    last_of_one : List ℕ
    last_of_one = dump 40 0x4254494e00005511000200011d000100ff42544c4600000b309294cc3042544c4600007aec65447c

    last_of_none : List ℕ
    last_of_none = dump 39 0x4254494e00005511000200011d000000ff42544c4600000b309294cc3042544c460000395c5443

    pair : List ℕ → ℕ → List ℕ → ℕ → Trial
    pair file n answer k = collecting file (header 70000 1 2 1 0 1 9) n answer k

-- Behind a block of 100 bytes: the figures of 1 are those of the part behind it, and 18 comes before all else.
behind : List Trial
behind =
    reading_at (lent 100 ++ eight_file) 100 7 8 8 (0 ∷ 6 ∷ 40 ∷ 8 ∷ 2 ∷ 285 ∷ 1 ∷ 8 ∷ 100 ∷ [])
    ∷ reading_at (take 120 (lent 100 ++ eight_file)) 100 7 8 8 (1 ∷ 23 ∷ 20 ∷ zeros)
    ∷ reading_at (lent 100) 100 0 8 8 (1 ∷ 4 ∷ 0 ∷ zeros)
    ∷ reading_at (lent 100) 101 0 8 8 (18 ∷ 0 ∷ 0 ∷ zeros)
    ∷ reading_at [] 0 0 8 8 (1 ∷ 4 ∷ 0 ∷ zeros)
    ∷ reading_at [] 18446744073709551615 0 3 3 (18 ∷ 0 ∷ 0 ∷ zeros)
    ∷ collecting_at (lent 100 ++ eight_file) 100 (header 40 8 8 2 285 1 8) 67 (0 ∷ 0 ∷ 0 ∷ 8 ∷ 4 ∷ 3 ∷ 3 ∷ []) 64
    ∷ collecting_at (lent 100 ++ take 290 eight_file) 100 (header 40 8 8 2 285 1 8) 64 (1 ∷ 291 ∷ 290 ∷ none) 0
    ∷ collecting_at (lent 100 ++ take 298 eight_file) 100 (header 40 8 8 2 285 1 8) 64 (1 ∷ 14 ∷ 13 ∷ none) 0
    ∷ collecting_at (lent 100 ++ take 33 three_image) 100 (header 40 8 3 0 0 3 3) 25 (1 ∷ 34 ∷ 33 ∷ none) 0
    ∷ collecting_at [] 0 (header 40 0 8 33 285 1 0) 64 (0 ∷ 0 ∷ 0 ∷ none) 0
    ∷ collecting_at [] 1 (header 40 0 8 33 285 1 0) 64 (18 ∷ 0 ∷ 0 ∷ none) 0
    ∷ []
  where
    zeros : List ℕ
    zeros = 0 ∷ 0 ∷ 0 ∷ 0 ∷ 0 ∷ 0 ∷ []

    none : List ℕ
    none = 0 ∷ 0 ∷ 0 ∷ 0 ∷ []

-- Looks at a leaf of three records, and at one of none: whole, without the last byte of the checksum, and without any of it.
looks : List Trial
looks =
    looking (take 34 three_image) 0 3 (0 ∷ 8 ∷ 0 ∷ []) 8
    ∷ looking (take 33 three_image) 0 3 (1 ∷ 34 ∷ 33 ∷ []) 0
    ∷ looking (take 30 three_image) 0 3 (1 ∷ 34 ∷ 30 ∷ []) 0
    ∷ looking (lent 100 ++ take 30 three_image) 100 3 (1 ∷ 34 ∷ 30 ∷ []) 0
    ∷ looking none_image 0 0 (0 ∷ 0 ∷ 0 ∷ []) 0
    ∷ looking (take 9 none_image) 0 0 (1 ∷ 10 ∷ 9 ∷ []) 0
    ∷ looking (take 6 none_image) 0 0 (1 ∷ 10 ∷ 6 ∷ []) 0
    ∷ []

-- The numbers of the trials that disagree.
disagreeing : ℕ → List Trial → List ℕ
disagreeing i [] = []
disagreeing i (t ∷ ts) = let rest = disagreeing (i + 1) ts in pick (same t.found t.due) rest (i ∷ rest)

agree : disagreeing 0 (writes ++ (reads ++ (collects ++ (behind ++ looks)))) ≡ []
unfolding computed root_test le unle num least_from width field_size stored cells leaf_capacity count_width internal_capacity subtree_capacity
    total_width node_capacity sum_kids between count size below nodes leaves taken distributed children kids_of plan_tree any_of thin
    plan_depth empty_level planned plan_figures plan_answer summed padded pointer_bytes address record_range leaf_bytes pointer pointers own_records internal_bytes
    kids_image image header_bytes over nodes_of image_of root_of root_records_of header_from write_answer written header_exit image_exit put_record
    records_put pointer_place child_address child_records leaf_run child_run own_record_run children_run node_run same front_test checksum_test header_at
    parsed leaf_body leaf_test internal_body internal_test collect_tests collected run_cells dump dumps ramp_from ramp lent writing summing refusing reading
    collecting on_part parsed_at collected_at reading_at ending collecting_at behind look_test look_bytes record_seen record_answer record_exit
    record_answer_at record_exit_at looking looks request header three_header three_image four_header four_image eight_header eight_image eight_file leaves_last two_header two_image none_header
    none_image writes reads collects disagreeing
agree = refl
