-- The places of a tree's records: the bytes there, one after another, are the bytes that the walk puts out, there are as many places as records,
-- and an accepted walk has put them out.
use mathlib.Core.Path.{◌≡◌, refl, sym, ap, ◌∙◌}
use mathlib.Core.List.{List, [], ◌∷◌, ◌++◌, append_assoc}
use Prim.Native.Nat.{ℕ, zero, suc, ◌+◌, ◌*◌, ◌≤◌, ◌<◌, zero-le}
use native.Mathlib.Nat.{suc-mul, zero-mul, zero-add, mul-le-mul_right}
use native.Mathlib.Omega.{arith}
use lib.ListN.{length, get_or, take, length-append, length-take}
use lib.Seq.{take_at, drop-append-add}
use Rattle.numbers.specs.Numbers.{part}
use Rattle.numbers.specs.Places.{stored}
use Rattle.numbers.proofs.Lists.{part_add, part_take, take_stored_end}
use Rattle.plan.specs.Tree.{sum_kids, size}
use Rattle.node_info.specs.declared.Geometry.{Geometry}
use Rattle.btree_v2_collect.specs.Walk.{Counts, no_counts, Tests, pointer_to, address_in, records_in}
use Rattle.btree_v2_collect.specs.InFile.{at_child, kids_at, tree_at, places_from, children_places, places_at, records_at, children_bytes, tree_bytes}
use Rattle.btree_v2_collect.proofs.InFile.{between_kids, RecordsThere, Done}
use Rattle.btree_v2_collect.proofs.Puts.{sum}
use Rattle.btree_v2_collect.proofs.Sound.{tree_tally, puts_node}

module _ (file : List ℕ) (g : Geometry) where
  records_append : (ps qs : List ℕ) → records_at file g (ps ++ qs) ≡ records_at file g ps ++ records_at file g qs
  unfolding records_at
  records_append [] qs = refl
  records_append (p ∷ ps) qs = rw (records_append ps qs) (sym (append_assoc (part file p g.record_size) (records_at file g ps) (records_at file g qs)))

  records_from : (n p : ℕ) → part file p (n * g.record_size) ≡ records_at file g (places_from file g n p)
  unfolding records_at places_from
  records_from zero p = rw zero-mul
  records_from (suc n) p =
      let e : suc n * g.record_size ≡ g.record_size + n * g.record_size = rw suc-mul (omega arith) in
      rw (e, ← part_add, records_from n (p + g.record_size))

  module _ (d a n : ℕ) (each : (b k : ℕ) → tree_bytes file g d (tree_at file g d b k) b ≡ records_at file g (places_at file g d b k)) where
    children_bytes_lem : (m i : ℕ) → children_bytes file g d a n (tree_bytes file g d) (kids_at file g d a n (tree_at file g d) m i) i
        ≡ records_at file g (children_places file g d a n (places_at file g d) m i)
    unfolding children_bytes kids_at children_places records_at
    children_bytes_lem zero i = each _ _
    children_bytes_lem (suc m) i = rw (records_append (at_child file g (places_at file g d) d a n i) _, each, children_bytes_lem m (i + 1))

  pub places_bytes : (d a n : ℕ) → tree_bytes file g d (tree_at file g d a n) a ≡ records_at file g (places_at file g d a n)
  unfolding tree_bytes tree_at places_at
  places_bytes zero a n = records_from n (a + 6)
  places_bytes (suc d) a n = rw (between_kids file g d a n (tree_at file g d) n 0) (children_bytes_lem d a n (places_bytes d) n 0)

  length_from : (n p : ℕ) → length (places_from file g n p) ≡ n
  unfolding places_from
  length_from zero p = refl
  length_from (suc n) p = ap suc (length_from n (p + g.record_size))

  children_many : (d a n : ℕ) → ((b k : ℕ) → length (places_at file g d b k) ≡ size d (tree_at file g d b k)) → (m i : ℕ)
      → length (children_places file g d a n (places_at file g d) m i) ≡ sum_kids (size d) (kids_at file g d a n (tree_at file g d) m i) + m
  unfolding children_places kids_at sum_kids
  children_many d a n each zero i = omega (arith, each (address_in file g (pointer_to g d a n i)) (records_in file g (pointer_to g d a n i)))
  children_many d a n each (suc m) i =
      rw length-append
      (omega (arith, each (address_in file g (pointer_to g d a n i)) (records_in file g (pointer_to g d a n i)), children_many d a n each m (i + 1)))

  pub places_many : (d a n : ℕ) → length (places_at file g d a n) ≡ size d (tree_at file g d a n)
  unfolding places_at tree_at size
  places_many zero a n = length_from n (a + 6)
  places_many (suc d) a n = rw (between_kids file g d a n (tree_at file g d) n 0) (children_many d a n (places_many d) n 0)

  -- The bytes of the records: as many as the file has of them.
  records_most : (ps : List ℕ) → length (records_at file g ps) ≤ length ps * g.record_size
  unfolding records_at
  records_most [] = omega arith
  records_most (p ∷ ps) = simp (length-append, length-take) (omega (arith, records_most ps))

  -- Where all are there, the first is, and the others are.
  record AllThere (p : ℕ) (ps : List ℕ) : Type 0 where
    one : length (part file p g.record_size) ≡ g.record_size
    others : length (records_at file g ps) ≡ length ps * g.record_size

  all_there : (p : ℕ) (ps : List ℕ) → length (records_at file g (p ∷ ps)) ≡ suc (length ps) * g.record_size → AllThere p ps
  unfolding records_at
  all_there p ps whole =
      let most : length (part file p g.record_size) ≤ g.record_size = simp length-take (omega arith) in
      let both = rw length-append at whole in
      record { one = omega (arith, records_most ps); others = omega (arith, records_most ps) }

  -- Then record i among them is the one at place i.
  record_at : (ps : List ℕ) → length (records_at file g ps) ≡ length ps * g.record_size → (i : ℕ) → i < length ps
      → part (records_at file g ps) (i * g.record_size) g.record_size ≡ part file (get_or ps i 0) g.record_size
  unfolding records_at
  record_at [] whole i l = absurd (omega arith)
  record_at (p ∷ ps) whole zero l = rw (zero-mul, take_at _ (records_at file g ps) _ (all_there p ps whole).one)
  record_at (p ∷ ps) whole (suc i) l =
      let t = all_there p ps whole in
      let e : suc i * g.record_size ≡ length (part file p g.record_size) + i * g.record_size = omega arith in
      rw (e, drop-append-add) (record_at ps t.others i (omega arith))

-- An accepted walk into an output from its front on has put out the records at the tree's places, one for each.
pub record PutOut (file : List ℕ) (g : Geometry) (places : List ℕ) (o : List ℕ) (n : ℕ) : Type 0 where
  pub many : length places ≡ n
  pub bytes : take (n * g.record_size) o ≡ records_at file g places
  pub whole : length (records_at file g places) ≡ n * g.record_size

pub put_out_lem : (file : List ℕ) (g : Geometry) (tests : Tests) (there : RecordsThere file g tests) (d a n : ℕ) (out : List ℕ) (c : Counts) (o : List ℕ)
    → Done file g tests there d a n no_counts out c o → PutOut file g (places_at file g d a n) o c.records
put_out_lem file g tests there d a n out c o done =
    let b = tree_bytes file g d (tree_at file g d a n) a in
    let run = done.run in
    let counts : c ≡ sum no_counts (tree_tally d (tree_at file g d a n)) = cc in
    let output : o ≡ stored out (0 * g.record_size) b = cc in
    let records : c.records ≡ 0 + size d (tree_at file g d a n) = ap (λ (k : Counts). k.records) counts in
    let whole = (puts_node file g tests d (tree_at file g d a n) a done.sound).whole in
    let end : c.records * g.record_size ≡ 0 * g.record_size + length b = rw (records, whole) (omega arith) in
    record {
      many = rw places_many (omega arith);
      bytes = rw (end, output, take_stored_end out (0 * g.record_size) b (rw zero-mul zero-le), zero-mul) (places_bytes file g d a n);
      whole = rw (← places_bytes file g d a n, end, zero-mul, zero-add);
    }

-- So record i among those put out is the one at place i.
pub put_each_lem : (file : List ℕ) (g : Geometry) (places o : List ℕ) (n : ℕ) → PutOut file g places o n → (i : ℕ) → i < n
    → part o (i * g.record_size) g.record_size ≡ part file (get_or places i 0) g.record_size
put_each_lem file g places o n put i l =
    let many = put.many in
    let next : suc i * g.record_size ≤ n * g.record_size = mul-le-mul_right g.record_size l in
    let here = part_take o (n * g.record_size) (i * g.record_size) g.record_size (omega arith) in
    sym here ∙ rw put.bytes (record_at file g places (rw many put.whole) i (omega arith))
