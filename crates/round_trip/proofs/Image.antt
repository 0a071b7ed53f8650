-- A file in which the image of a tree stands: every node in it passes its tests, every pointer leads to its child, and the records' bytes
-- are those of the list from which the image was made.
use mathlib.Core.Path.{◌≡◌, refl}
use mathlib.Core.Bool.{true}
use mathlib.Core.List.{List, [], ◌∷◌, ◌++◌}
use Prim.Native.Nat.{ℕ, zero, suc, ◌+◌, ◌-◌, ◌*◌, ◌^◌, ◌≤◌, ◌<◌}
use native.Mathlib.Nat.{one-mul, add-zero, add_assoc, mul-le-mul_right, mod-eq_of_lt}
use native.Mathlib.Omega.{arith}
use lib.ListN.{length, length-append}
use borrow.Author.Tests.{le-leb}
use Rattle.checksum.specs.Lookup3.{lookup3}
use Rattle.numbers.specs.Numbers.{le, part, field_size}
use Rattle.numbers.specs.Places.{stored}
use Rattle.numbers.proofs.Numbers.{le_length}
use Rattle.refusal.specs.Answer.{accepted}
use Rattle.plan.specs.Tree.{Kids, last, more, Tree, sum_kids, between, count, size, below, nodes, AllKids, Everywhere}
use Rattle.plan.proofs.Trees.{everywhere_root}
use Rattle.format.specs.Bytes.{leaf_signature, internal_signature, records_end, summed, padded, pointer_bytes, address, record_range, leaf_bytes, pointer, pointers, own_records, internal_bytes, kids_image, image}
use Rattle.btree_v2_collect.specs.Walk.{pointer_to, address_in, records_in, Counts, fine, Tests, node_run}
use Rattle.btree_v2_internal.specs.Internal.{pointer_place, child_address, child_records, internal_body, internal_test}
use Rattle.btree_v2_leaf.specs.Leaf.{leaf_body, leaf_test}
use Rattle.btree_v2_collect.specs.Collect.{collect_tests}
use Rattle.numbers.proofs.Standing.{Stand, stand_left, stand_split, stand_end, stand_num}
use Rattle.btree_v2_collect.proofs.Puts.{sum}
use Rattle.read_checks.proofs.Passing.{front_passes}
use Rattle.round_trip.proofs.Summed.{checksum_passes}
use Rattle.format.specs.declared.Request.{Request}
use Rattle.node_info.specs.declared.Geometry.{Geometry}
use Rattle.node_info.specs.Capacity.{count_width, total_width, pointer_size_to}
use Rattle.format.specs.Fit.{Fit}
use Rattle.format.proofs.Lengths.{Room, length_range, range_add, length_pointer, length_own, length_internal, length_image, length_children}
use Rattle.btree_v2_collect.specs.InFile.{children_bytes, tree_bytes, ChildSound, ChildrenSound, Sound}
use Rattle.btree_v2_collect.proofs.Sound.{between_one, tree_tally, puts_node}

module _ (q : Request) (recs file : List ℕ) where
  abbrev g : Geometry
  g = q.geometry

  -- Tests that what was written passes.
  pub record Passes (tests : Tests) : Type 0 where
    pub leaf : (n r a : ℕ) → Room q recs r n → Stand file a (summed (leaf_bytes q recs n r)) → tests.leaf a n ≡ accepted []
    pub internal : (d : ℕ) (ts : Kids (Tree d)) (j r a : ℕ) → Room q recs r (sum_kids (size d) ts + between ts)
        → Stand file a (summed (internal_bytes q recs d ts j r)) → tests.internal d a (between ts) ≡ accepted []
    pub child : (d : ℕ) (t : Tree d) (j p : ℕ) → Fit g d t → Stand file p (pointer q d t j)
        → tests.child d p (size d t) ≡ accepted []

  -- A node in the file: its signature, and what follows the first six bytes and ends before the checksum.
  record NodeStands (signature rest : List ℕ) (a : ℕ) : Type 0 where
    begins : part file a 4 ≡ signature
    goes_on : Stand file (a + 6) rest
    ends : a + 10 + length rest ≤ length file

  node_stands : (signature rest : List ℕ) (a : ℕ) → length signature ≡ 4
      → Stand file a (summed (signature ++ (0 ∷ q.tree_type ∷ rest))) → NodeStands signature rest a
  unfolding summed
  node_stands signature rest a four h =
      let b = signature ++ (0 ∷ q.tree_type ∷ rest) in
      let e : length (b ++ le 4 (lookup3 b)) ≡ 10 + length rest = simp (length-append, le_length, four) (omega arith) in
      let s = stand_split file a signature (0 ∷ q.tree_type ∷ rest) (a + 4) (rw four) (stand_left file a b (le 4 (lookup3 b)) h) in
      record {
        begins = rw four at s.0;
        goes_on = (stand_split file (a + 4) (0 ∷ q.tree_type ∷ []) rest (a + 6) (omega arith) s.1).1;
        ends = omega (arith, stand_end file a (b ++ le 4 (lookup3 b)) h (omega arith));
      }

  -- Collecting's tests are such.
  module _ (sum_fits : (xs : List ℕ) → lookup3 xs < 256 ^ 4) (offset : field_size g.offset_size ≡ true) where
    leaf_passes : (n r a : ℕ) → Room q recs r n → Stand file a (summed (leaf_bytes q recs n r)) → leaf_test file g.record_size a n ≡ accepted []
    unfolding leaf_test leaf_body leaf_bytes
    leaf_passes n r a h st =
        let s = node_stands leaf_signature (record_range q recs r n) a refl st in
        let l = length_range q recs r n h in
        let e : a + records_end g.record_size n ≡ a + length (leaf_bytes q recs n r) = omega arith in
        let there : a + records_end g.record_size n + 4 ≤ length file = omega arith in
        rw (front_passes file leaf_signature a (omega arith) s.begins, le-leb (a + records_end g.record_size n) (length file) (omega arith), le-leb _ _ there, e)
        (checksum_passes sum_fits file (leaf_bytes q recs n r) a st (accepted []))

    internal_passes : (d : ℕ) (ts : Kids (Tree d)) (j r a : ℕ) → Room q recs r (sum_kids (size d) ts + between ts)
        → Stand file a (summed (internal_bytes q recs d ts j r)) → internal_test file g.record_size g.offset_size (pointer_size_to g d) a (between ts) ≡ accepted []
    unfolding internal_test internal_body internal_bytes
    internal_passes d ts j r a h st =
        let s = node_stands internal_signature (own_records q recs d ts r ++ pointers q d ts j) a refl st in
        let l = length_internal q recs d ts j r h in
        let end = records_end g.record_size (between ts) in
        let there : end + (between ts + 1) * pointer_size_to g d ≤ length file - a = omega arith in
        rw (front_passes file internal_signature a (omega arith) s.begins, le-leb end (length file - a) (omega arith), le-leb _ _ there, offset)

    pub collecting_passes : Passes (collect_tests file g)
    unfolding collect_tests
    collecting_passes = record { leaf = leaf_passes; internal = internal_passes; child = λ d t j p f h. refl }

  -- The pointer reads what was written.
  module _ (d : ℕ) (t : Tree d) (j p : ℕ) (h : Stand file p (pointer q d t j)) where
    pointer_parts : Stand file p (le g.offset_size (address q (j + below d t))) × Stand file (p + g.offset_size) (le (count_width g) (count d t) ++ le (total_width g d) (size d t))
    unfolding pointer pointer_bytes
    pointer_parts = stand_split file p (le g.offset_size (address q (j + below d t))) _ (p + g.offset_size) (rw le_length) h

    reads_address : address q (j + below d t) < 256 ^ g.offset_size → address_in file g p ≡ address q (j + below d t)
    unfolding child_address
    reads_address = stand_num file p g.offset_size (address q (j + below d t)) pointer_parts.0

    reads_records : Fit g d t → records_in file g p ≡ count d t
    unfolding child_records
    reads_records f =
        let c = stand_left file (p + g.offset_size) (le (count_width g) (count d t)) (le (total_width g d) (size d t)) pointer_parts.1 in
        rw (stand_num file (p + g.offset_size) (count_width g) (count d t) c f.records, mod-eq_of_lt f.small)

  -- The address of a node further on, and of one before it.
  address_add : (j k : ℕ) → address q j + k * g.node_size ≡ address q (j + k)
  unfolding address
  address_add j k = omega arith

  address_before : (j k m : ℕ) → k ≤ m → address q (j + m) < 256 ^ g.offset_size → address q (j + k) < 256 ^ g.offset_size
  unfolding address
  address_before j k m h l = omega (arith, mul-le-mul_right g.node_size h)

  -- The image of a tree stands, its first node node j and its first record record r.
  pub record Imaged (d : ℕ) (t : Tree d) (j r : ℕ) : Type 0 where
    pub fits : Everywhere (Fit g) d t
    pub room : Room q recs r (size d t)
    pub reach : address q (j + below d t) < 256 ^ g.offset_size
    pub stands : Stand file (address q j) (image q recs d t j r)

  module _ (tests : Tests) (passes : Passes tests) where
    -- The tree t is there, its root the node at a and its first record record r.
    abbrev Placed : (d : ℕ) → Tree d → ℕ → ℕ → Type 0
    Placed d t a r = Sound file g tests d t a × (tree_bytes file g d t a ≡ record_range q recs r (size d t))

    -- The children of the node at a with n records.
    module _ (d a n : ℕ) (each : (t : Tree d) (j r : ℕ) → Imaged d t j r → Placed d t (address q (j + below d t)) r) where
      place_next : (i : ℕ) → pointer_to g d a n i + pointer_size_to g d ≡ pointer_to g d a n (i + 1)
      unfolding pointer_place
      place_next i = omega arith

      child_sound : (t : Tree d) (i j r : ℕ) → Imaged d t j r → Stand file (pointer_to g d a n i) (pointer q d t j)
          → ChildSound file g tests d a n (Sound file g tests d) t i
          × (tree_bytes file g d t (address_in file g (pointer_to g d a n i)) ≡ record_range q recs r (size d t))
      child_sound t i j r m h =
          let p = pointer_to g d a n i in
          let f = everywhere_root (Fit g) d t m.fits in
          let e = reads_address d t j p h m.reach in
          let placed = each t j r m in
          (record { records = reads_records d t j p h f; node = rw e placed.0; after = passes.child d t j p f h }, rw e placed.1)

      children_sound : (ts : Kids (Tree d)) (i j r : ℕ) → AllKids (Everywhere (Fit g) d) ts
          → Room q recs r (sum_kids (size d) ts + between ts) → address q (j + sum_kids (nodes d) ts) < 256 ^ g.offset_size
          → Stand file (address q j) (kids_image q recs d (image q recs d) ts j r)
          → Stand file (a + 6 + i * g.record_size) (own_records q recs d ts r) → Stand file (pointer_to g d a n i) (pointers q d ts j)
          → ChildrenSound file g tests d a n (Sound file g tests d) ts i
          × (children_bytes file g d a n (tree_bytes file g d) ts i ≡ record_range q recs r (sum_kids (size d) ts + between ts))
      unfolding sum_kids between nodes kids_image own_records pointers children_bytes
      children_sound (last t) i j r f room l im own ps =
          rw add-zero
          (child_sound t i j r (record { fits = f; room = omega arith; reach = address_before j _ _ (omega arith) l; stands = im }) ps)
      children_sound (more t ts) i j r f room l im own ps =
          let len = length_range q recs (r + size d t) 1 (omega arith) in
          let im2 = stand_split file (address q j) (image q recs d t j r) _ (address q (j + nodes d t)) (rw (length_image q recs d t j r f.0 (omega arith)) (address_add j (nodes d t))) im in
          let own2 = stand_split file (a + 6 + i * g.record_size) (record_range q recs (r + size d t) 1) _ (a + 6 + (i + 1) * g.record_size) (omega arith) own in
          let ps2 = stand_split file (pointer_to g d a n i) (pointer q d t j) _ (pointer_to g d a n (i + 1)) (rw length_pointer (place_next i)) ps in
          let first = child_sound t i j r (record { fits = f.0; room = omega arith; reach = address_before j _ _ (omega arith) l; stands = im2.0 }) ps2.0 in
          let others = children_sound ts (i + 1) (j + nodes d t) (r + size d t + 1) f.1 (omega arith) (rw add_assoc l) im2.1 own2.1 ps2.1 in
          ((first.0, others.0), rw (first.1, rw (len, one-mul) at own2.0, others.1, range_add, range_add, between_one))

    pub image_sound : (d : ℕ) (t : Tree d) (j r : ℕ) → Imaged d t j r → Placed d t (address q (j + below d t)) r
    unfolding image below size tree_bytes padded leaf_bytes internal_bytes nodes pointer_place
    image_sound zero n j r m =
        let st = stand_left file (address q j) (summed (leaf_bytes q recs n r)) _ m.stands in
        let s = node_stands leaf_signature (record_range q recs r n) (address q j) refl st in
        let len = length_range q recs r n m.room in
        rw add-zero
        (record { passes = passes.leaf n r (address q j) m.room st; there = omega arith }, rw len at s.goes_on)
    image_sound (suc d) ts j r m =
        let a = address q (j + sum_kids (nodes d) ts) in
        let own = own_records q recs d ts r in
        let ps = pointers q d ts j in
        let im2 = stand_split file (address q j) (kids_image q recs d (image q recs d) ts j r) (padded g.node_size (internal_bytes q recs d ts j r)) a
        (rw (length_children q recs d (length_image q recs d) ts j r m.fits.1 m.room) (address_add j (sum_kids (nodes d) ts))) m.stands in
        let st = stand_left file a (summed (internal_bytes q recs d ts j r)) _ im2.1 in
        let s = node_stands internal_signature (own ++ ps) a refl st in
        let len = length_own q recs d ts r m.room in
        let rest = stand_split file (a + 6) own ps (pointer_to g d a (between ts) 0) (omega arith) s.goes_on in
        let e : a + 6 ≡ a + 6 + 0 * g.record_size = omega arith in
        let c = children_sound d a (between ts) (image_sound d) ts 0 j r m.fits.1 m.room m.reach im2.0 (rw e at rest.0) rest.1 in
        ((record { passes = passes.internal d ts j r a m.room st; there = omega (arith, length-append own ps) }, c.0), c.1)

    -- So the walk from the root puts out the records, and counts them and the nodes.
    pub image_walks : (d : ℕ) (t : Tree d) (j r : ℕ) → Imaged d t j r → (c : Counts) (o : List ℕ) → (c.records + size d t) * g.record_size ≤ length o
        → node_run file g tests d (address q (j + below d t)) (count d t) c o
        ≡ fine (sum c (tree_tally d t)) (stored o (c.records * g.record_size) (record_range q recs r (size d t)))
    image_walks d t j r m c o fits =
        let p = image_sound d t j r m in
        rw ((puts_node file g tests d t (address q (j + below d t)) p.0).runs c o fits, p.1)
