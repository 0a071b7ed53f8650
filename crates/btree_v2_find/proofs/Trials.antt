-- Trials: what the definitions of finding say of small lists, of a small tree, before the root and of leaves without their checksums, computed.
use mathlib.Core.Path.{◌≡◌, refl}
use mathlib.Core.Bool.{true, false}
use mathlib.Core.List.{List, [], ◌∷◌, ◌++◌}
use Prim.Native.Nat.{ℕ, ◌-◌, ◌^◌}
use lib.ListN.{get_or, replicate}
use Rattle.refusal.specs.Answer.{accepted, refused, cells}
use Rattle.numbers.specs.Numbers.{unle, num, least_from, width, field_size}
use Rattle.node_info.specs.declared.Geometry.{Geometry}
use Rattle.node_info.specs.Capacity.{leaf_capacity, count_width, total_width}
use Rattle.field.specs.declared.Field.{Field}
use Rattle.field.specs.Field.{number_field, number_at}
use Rattle.read_checks.specs.Base.{on_part}
use Rattle.format.specs.Bytes.{leaf_signature, internal_signature}
use Rattle.read_checks.specs.Tests.{root_test, front_test, same}
use Rattle.btree_v2_header.specs.Header.{with_base}
use Rattle.btree_v2_header.specs.declared.BTreeV2Header.{BTreeV2Header}
use Rattle.btree_v2_internal.specs.Internal.{pointer_place, child_address, child_records, internal_body, internal_test}
use Rattle.btree_v2_leaf.specs.Leaf.{leaf_body, leaf_test}
use Rattle.btree_v2_collect.specs.Walk.{Tests}
use Rattle.btree_v2_collect.specs.Collect.{collect_tests}
use Rattle.btree_v2_find.specs.Find.{bound_from, last_with, Descent, ended, bound, bounding, descent, key_test, descended, place_found, find_cells, found_at}
use Rattle.btree_v2_find.specs.Refusals.{NodeAt, nodes_on}
use Rattle.btree_v2_find.proofs.Keys.{first_with}

abbrev field : ℕ → ℕ → Field
field s w = record { start = s; width = w }

-- Fields that a record of 8 bytes has, and fields that it has not.
these : (number_field (field 0 8) 8 ≡ true) × (number_field (field 7 1) 8 ≡ true)
unfolding number_field
these = (refl, refl)

no_bytes : number_field (field 0 0) 8 ≡ false
unfolding number_field
no_bytes = refl

too_many : number_field (field 0 9) 9 ≡ false
unfolding number_field
too_many = refl

past_the_end : (number_field (field 1 8) 8 ≡ false) × (number_field (field (2 ^ 64 - 1) 1) 8 ≡ false)
unfolding number_field
past_the_end = (refl, refl)

-- Four numbers with the keys 3, 5, 5 and 9.
abbrev key : ℕ → ℕ
key i = get_or (3 ∷ 5 ∷ 5 ∷ 9 ∷ []) i 0

bounds : (bound_from key 0 4 0 ≡ 0) × (bound_from key 5 4 0 ≡ 1) × (bound_from key 6 4 0 ≡ 3) × (bound_from key 10 4 0 ≡ 4)
unfolding bound_from
bounds = (refl, refl, refl, refl)

with_five : (first_with key 5 (0 ∷ 1 ∷ 2 ∷ 3 ∷ []) ≡ 1 ∷ []) × (last_with key 5 (0 ∷ 1 ∷ 2 ∷ 3 ∷ []) ≡ 2 ∷ [])
unfolding first_with last_with
with_five = (refl, refl)

with_four : (first_with key 4 (0 ∷ 1 ∷ 2 ∷ 3 ∷ []) ≡ []) × (last_with key 4 (0 ∷ 1 ∷ 2 ∷ 3 ∷ []) ≡ [])
unfolding first_with last_with
with_four = (refl, refl)

-- Records of one byte, their own keys. The root, at 0, has record 5 at place 6 and leads to a leaf at 13 with the records 4 and 5 and to one
-- at 21 with 5 and 9. The tests accept.
abbrev file : List ℕ
file = 0 ∷ 0 ∷ 0 ∷ 0 ∷ 0 ∷ 0 ∷ 5 ∷ 13 ∷ 0 ∷ 2 ∷ 21 ∷ 0 ∷ 2 ∷ 0 ∷ 0 ∷ 0 ∷ 0 ∷ 0 ∷ 0 ∷ 4 ∷ 5 ∷ 0 ∷ 0 ∷ 0 ∷ 0 ∷ 0 ∷ 0 ∷ 5 ∷ 9 ∷ []

abbrev sizes : Geometry
sizes = record { node_size = 32; record_size = 1; offset_size = 2 }

abbrev accepting : Tests
accepting = record { leaf = λ a n. accepted []; internal = λ d a n. accepted []; child = λ d p m. accepted [] }

abbrev down : ℕ → Descent
down x = descent file sizes (field 0 1) x accepting 1 0 1

-- The first 5 lies in the first leaf, behind its 4; the root's own 5 bounds too. 9 lies in the last leaf, where nothing in the root bounds; 6
-- is nowhere, though 9 bounds it. The nodes on the descent are the root and the leaf taken.
abbrev place : ℕ → List ℕ
place x = place_found file (field 0 1) x (down x)

abbrev on : ℕ → List NodeAt
on x = nodes_on file sizes (field 0 1) x 1 0 1

descents : (down 5 ≡ record { ends = accepted []; bounds = 6 ∷ 20 ∷ []; nodes = 2 }) × (place 5 ≡ 20 ∷ [])
    × (down 9 ≡ record { ends = accepted []; bounds = 28 ∷ []; nodes = 2 }) × (place 9 ≡ 28 ∷ []) × (down 6 ≡ down 9) × (place 6 ≡ [])
    × (on 5 ≡ record { level = 1; address = 0; records = 1 } ∷ record { level = 0; address = 13; records = 2 } ∷ []) × (on 6 ≡ on 9)
unfolding nodes_on descent bounding bound bound_from number_at num unle pointer_place child_address child_records count_width total_width width least_from leaf_capacity place_found last_with
descents = (refl, refl, refl, refl, refl, refl, refl, refl)

-- Before the root: an empty tree is accepted whatever the field; 17 comes after 8 and 16.
abbrev header : ℕ → ℕ → ℕ → BTreeV2Header
header n rs depth =
    record {
      tree_type = 5;
      geometry = record { node_size = 32; record_size = rs; offset_size = 2 };
      depth = depth;
      root_node_address = 0;
      num_records_in_root = 1;
      total_records = n;
      base = 0;
    }

before_root : (descended file (header 0 0 33) (field 0 9) 5 ≡ ended (accepted [])) × (descended file (header 1 0 33) (field 0 9) 5 ≡ ended (refused 8 []))
    × (descended file (header 1 1 33) (field 0 9) 5 ≡ ended (refused 16 (33 ∷ []))) × (descended file (header 1 1 1) (field 0 9) 5 ≡ ended (refused 17 []))
unfolding descended root_test key_test number_field
before_root = (refl, refl, refl, refl)

-- With a base, in a file of 30 bytes: 18 comes before all else, an empty tree's acceptance too; a base that is the length passes.
with_base_lem : (found_at (9 ∷ file) (with_base 31 (header 0 0 33)) (field 0 9) 5 ≡ 18 ∷ 0 ∷ 0 ∷ 0 ∷ 0 ∷ 0 ∷ [])
    × (found_at (9 ∷ file) (with_base 30 (header 0 0 33)) (field 0 9) 5 ≡ 0 ∷ 0 ∷ 0 ∷ 0 ∷ 0 ∷ 0 ∷ [])
    × (found_at (9 ∷ file) (with_base 30 (header 1 0 33)) (field 0 9) 5 ≡ 8 ∷ 0 ∷ 0 ∷ 0 ∷ 0 ∷ 0 ∷ [])
    × (found_at [] (with_base 1 (header 0 1 0)) (field 0 1) 5 ≡ 18 ∷ 0 ∷ 0 ∷ 0 ∷ 0 ∷ 0 ∷ [])
unfolding found_at on_part find_cells cells place_found last_with descended root_test
with_base_lem = (refl, refl, refl, refl)

-- A leaf of one record, 7, whose file ends within its checksum: refused by 1 with the checksum's end, whatever is sought, with a base too.
abbrev cut : ℕ → List ℕ
cut k = leaf_signature ++ (0 ∷ 5 ∷ 7 ∷ replicate k 0)

short_leaf : (found_at (cut 3) (header 1 1 0) (field 0 1) 7 ≡ 1 ∷ 11 ∷ 10 ∷ 0 ∷ 0 ∷ 0 ∷ []) × (found_at (cut 0) (header 1 1 0) (field 0 1) 7 ≡ 1 ∷ 11 ∷ 7 ∷ 0 ∷ 0 ∷ 0 ∷ [])
    × (found_at (9 ∷ cut 3) (with_base 1 (header 1 1 0)) (field 0 1) 8 ≡ 1 ∷ 11 ∷ 10 ∷ 0 ∷ 0 ∷ 0 ∷ [])
unfolding found_at on_part find_cells cells place_found last_with descended root_test key_test number_field descent collect_tests leaf_test leaf_body front_test same
short_leaf = (refl, refl, refl)

-- The same of the last leaf under a root, where the key leads there. The root has record 85 and leads to leaves at 17 and 29.
abbrev under : List ℕ
under =
    internal_signature
    ++ (0 ∷ 0 ∷ 85 ∷ 17 ∷ 0 ∷ 2 ∷ 29 ∷ 0 ∷ 1 ∷ (replicate 16 0 ++ (leaf_signature ++ (0 ∷ 5 ∷ 122 ∷ []))))

short_last_leaf : found_at under (header 4 1 1) (field 0 1) 122 ≡ 1 ∷ 40 ∷ 36 ∷ 1 ∷ 0 ∷ 0 ∷ []
unfolding found_at on_part find_cells cells place_found last_with descended root_test key_test number_field descent bounding bound bound_from number_at num unle pointer_place child_address
    child_records count_width total_width width least_from leaf_capacity collect_tests internal_test internal_body field_size leaf_test leaf_body front_test same
short_last_leaf = refl
