-- The fields of small nodes, computed, beside the bytes due: how a leaf and two internal nodes look after some of their fields. The bytes are a
-- second implementation's, written from the documents.
use mathlib.Core.Path.{◌≡◌, refl}
use mathlib.Core.List.{List, [], ◌∷◌}
use Prim.Native.Nat.{ℕ}
use lib.ListN.{replicate}
use Rattle.checksum.proofs.Promise.{computed}
use Rattle.numbers.specs.Numbers.{le, least_from, width}
use Rattle.numbers.specs.Places.{over, joined, filled_to}
use Rattle.node_info.specs.Capacity.{leaf_capacity, count_width, internal_capacity, subtree_capacity, total_width, node_capacity}
use Rattle.plan.specs.Tree.{last, more, sum_kids, between, count, size, below, nodes}
use Rattle.format.specs.Bytes.{address}
use Rattle.format.specs.Fields.{front_fields, end_fields, with_end, record_fields, pointer_fields, all_pointer_fields, leaf_fields, own_fields, internal_fields}
use Rattle.format.specs.declared.Request.{Request}

-- Nodes of this size with records of 3 bytes and offsets of 2, from place 100 on, and 21 bytes of records.
request : ℕ → Request
request ns =
    record {
      tree_type = 5;
      record_count = 7;
      geometry = record { node_size = ns; record_size = 3; offset_size = 2 };
      length_size = 2;
      start = 100;
    }

recs : List ℕ
recs = 1 ∷ 2 ∷ 3 ∷ 4 ∷ 5 ∷ 6 ∷ 7 ∷ 8 ∷ 9 ∷ 10 ∷ 11 ∷ 12 ∷ 13 ∷ 14 ∷ 15 ∷ 16 ∷ 17 ∷ 18 ∷ 19 ∷ 20 ∷ 21 ∷ []

lent : ℕ → List ℕ
lent n = replicate n 165

-- A leaf of records 1 and 2, in 20 bytes and two behind them.
leaf_to : ℕ → List ℕ
leaf_to k = filled_to k (leaf_fields (request 20) recs 2 1) (lent 22)

leaf_trials : (leaf_to 0 ≡ lent 22)
    × (leaf_to 1 ≡ 66 ∷ 84 ∷ 76 ∷ 70 ∷ lent 18)
    × (leaf_to 2 ≡ 66 ∷ 84 ∷ 76 ∷ 70 ∷ 0 ∷ lent 17)
    × (leaf_to 3 ≡ 66 ∷ 84 ∷ 76 ∷ 70 ∷ 0 ∷ 5 ∷ lent 16)
    × (leaf_to 4 ≡ 66 ∷ 84 ∷ 76 ∷ 70 ∷ 0 ∷ 5 ∷ 4 ∷ 5 ∷ 6 ∷ lent 13)
    × (leaf_to 5 ≡ 66 ∷ 84 ∷ 76 ∷ 70 ∷ 0 ∷ 5 ∷ 4 ∷ 5 ∷ 6 ∷ 7 ∷ 8 ∷ 9 ∷ lent 10)
    × (leaf_to 6 ≡ 66 ∷ 84 ∷ 76 ∷ 70 ∷ 0 ∷ 5 ∷ 4 ∷ 5 ∷ 6 ∷ 7 ∷ 8 ∷ 9 ∷ 46 ∷ 123 ∷ 143 ∷ 195 ∷ lent 6)
    × (leaf_to 7 ≡ 66 ∷ 84 ∷ 76 ∷ 70 ∷ 0 ∷ 5 ∷ 4 ∷ 5 ∷ 6 ∷ 7 ∷ 8 ∷ 9 ∷ 46 ∷ 123 ∷ 143 ∷ 195 ∷ 0 ∷ 0 ∷ 0 ∷ 0 ∷ lent 2)
    × (leaf_to 9 ≡ 66 ∷ 84 ∷ 76 ∷ 70 ∷ 0 ∷ 5 ∷ 4 ∷ 5 ∷ 6 ∷ 7 ∷ 8 ∷ 9 ∷ 46 ∷ 123 ∷ 143 ∷ 195 ∷ 0 ∷ 0 ∷ 0 ∷ 0 ∷ lent 2)
unfolding computed le over joined filled_to front_fields end_fields with_end record_fields leaf_fields request recs lent leaf_to
leaf_trials = (refl, refl, refl, refl, refl, refl, refl, refl, refl)

-- A node above two leaves of one record each, the first of them node 0: its totals have no bytes.
low_to : ℕ → List ℕ
low_to k = filled_to k (internal_fields (request 24) recs 0 (more 1 (last 1)) 0 0) (lent 24)

low_trials : (low_to 0 ≡ lent 24)
    × (low_to 3 ≡ 66 ∷ 84 ∷ 73 ∷ 78 ∷ 0 ∷ 5 ∷ lent 18)
    × (low_to 4 ≡ 66 ∷ 84 ∷ 73 ∷ 78 ∷ 0 ∷ 5 ∷ 4 ∷ 5 ∷ 6 ∷ lent 15)
    × (low_to 5 ≡ 66 ∷ 84 ∷ 73 ∷ 78 ∷ 0 ∷ 5 ∷ 4 ∷ 5 ∷ 6 ∷ 100 ∷ 0 ∷ lent 13)
    × (low_to 6 ≡ 66 ∷ 84 ∷ 73 ∷ 78 ∷ 0 ∷ 5 ∷ 4 ∷ 5 ∷ 6 ∷ 100 ∷ 0 ∷ 1 ∷ lent 12)
    × (low_to 7 ≡ 66 ∷ 84 ∷ 73 ∷ 78 ∷ 0 ∷ 5 ∷ 4 ∷ 5 ∷ 6 ∷ 100 ∷ 0 ∷ 1 ∷ lent 12)
    × (low_to 8 ≡ 66 ∷ 84 ∷ 73 ∷ 78 ∷ 0 ∷ 5 ∷ 4 ∷ 5 ∷ 6 ∷ 100 ∷ 0 ∷ 1 ∷ 124 ∷ 0 ∷ lent 10)
    × (low_to 10 ≡ 66 ∷ 84 ∷ 73 ∷ 78 ∷ 0 ∷ 5 ∷ 4 ∷ 5 ∷ 6 ∷ 100 ∷ 0 ∷ 1 ∷ 124 ∷ 0 ∷ 1 ∷ lent 9)
    × (low_to 11 ≡ 66 ∷ 84 ∷ 73 ∷ 78 ∷ 0 ∷ 5 ∷ 4 ∷ 5 ∷ 6 ∷ 100 ∷ 0 ∷ 1 ∷ 124 ∷ 0 ∷ 1 ∷ 215 ∷ 130 ∷ 217 ∷ 23 ∷ lent 5)
    × (low_to 12 ≡ 66 ∷ 84 ∷ 73 ∷ 78 ∷ 0 ∷ 5 ∷ 4 ∷ 5 ∷ 6 ∷ 100 ∷ 0 ∷ 1 ∷ 124 ∷ 0 ∷ 1 ∷ 215 ∷ 130 ∷ 217 ∷ 23 ∷ 0 ∷ 0 ∷ 0 ∷ 0 ∷ 0 ∷ lent 0)
unfolding computed le least_from width over joined filled_to leaf_capacity count_width internal_capacity subtree_capacity total_width node_capacity sum_kids between
    count size below nodes address front_fields end_fields with_end record_fields pointer_fields all_pointer_fields own_fields internal_fields request recs lent low_to
low_trials = (refl, refl, refl, refl, refl, refl, refl, refl, refl, refl)

-- A node above two such nodes.
high_to : ℕ → List ℕ
high_to k = filled_to k (internal_fields (request 30) recs 1 (more (more 1 (last 1)) (last (more 1 (last 1)))) 0 0) (lent 31)

high_trials : (high_to 4 ≡ 66 ∷ 84 ∷ 73 ∷ 78 ∷ 0 ∷ 5 ∷ 10 ∷ 11 ∷ 12 ∷ lent 22)
    × (high_to 6 ≡ 66 ∷ 84 ∷ 73 ∷ 78 ∷ 0 ∷ 5 ∷ 10 ∷ 11 ∷ 12 ∷ 160 ∷ 0 ∷ 1 ∷ lent 19)
    × (high_to 7 ≡ 66 ∷ 84 ∷ 73 ∷ 78 ∷ 0 ∷ 5 ∷ 10 ∷ 11 ∷ 12 ∷ 160 ∷ 0 ∷ 1 ∷ 3 ∷ lent 18)
    × (high_to 9 ≡ 66 ∷ 84 ∷ 73 ∷ 78 ∷ 0 ∷ 5 ∷ 10 ∷ 11 ∷ 12 ∷ 160 ∷ 0 ∷ 1 ∷ 3 ∷ 250 ∷ 0 ∷ 1 ∷ lent 15)
    × (high_to 10 ≡ 66 ∷ 84 ∷ 73 ∷ 78 ∷ 0 ∷ 5 ∷ 10 ∷ 11 ∷ 12 ∷ 160 ∷ 0 ∷ 1 ∷ 3 ∷ 250 ∷ 0 ∷ 1 ∷ 3 ∷ lent 14)
    × (high_to 11 ≡ 66 ∷ 84 ∷ 73 ∷ 78 ∷ 0 ∷ 5 ∷ 10 ∷ 11 ∷ 12 ∷ 160 ∷ 0 ∷ 1 ∷ 3 ∷ 250 ∷ 0 ∷ 1 ∷ 3 ∷ 14 ∷ 248 ∷ 120 ∷ 30 ∷ lent 10)
    × (high_to 12 ≡ 66 ∷ 84 ∷ 73 ∷ 78 ∷ 0 ∷ 5 ∷ 10 ∷ 11 ∷ 12 ∷ 160 ∷ 0 ∷ 1 ∷ 3 ∷ 250 ∷ 0 ∷ 1 ∷ 3 ∷ 14 ∷ 248 ∷ 120 ∷ 30 ∷ 0 ∷ 0 ∷ 0 ∷ 0 ∷ 0 ∷ 0 ∷ 0 ∷ 0 ∷ 0 ∷ lent 1)
    × (high_to 99 ≡ 66 ∷ 84 ∷ 73 ∷ 78 ∷ 0 ∷ 5 ∷ 10 ∷ 11 ∷ 12 ∷ 160 ∷ 0 ∷ 1 ∷ 3 ∷ 250 ∷ 0 ∷ 1 ∷ 3 ∷ 14 ∷ 248 ∷ 120 ∷ 30 ∷ 0 ∷ 0 ∷ 0 ∷ 0 ∷ 0 ∷ 0 ∷ 0 ∷ 0 ∷ 0 ∷ lent 1)
unfolding computed le least_from width over joined filled_to leaf_capacity count_width internal_capacity subtree_capacity total_width node_capacity sum_kids between
    count size below nodes address front_fields end_fields with_end record_fields pointer_fields all_pointer_fields own_fields internal_fields request recs lent high_to
high_trials = (refl, refl, refl, refl, refl, refl, refl, refl)
