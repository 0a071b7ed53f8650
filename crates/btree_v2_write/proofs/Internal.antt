-- Filling an internal node within a budget of fields: its own records and its pointers, child by child. A loop's invariant says that what fills
-- the rest, from the progress reached on, fills the whole.
use Rattle.std.specs.Borrow.{MutBor}
use mathlib.Core.Path.{◌≡◌, refl, sym, ◌∙◌, ap}
use mathlib.Core.Logic.{⊎_elim}
use mathlib.Core.Bool.{Bool, true, false}
use mathlib.Core.List.{List, [], ◌∷◌}
use Prim.Native.Nat.{ℕ, zero, suc, ◌+◌, ◌-◌, ◌*◌, ◌^◌, ◌≤◌, ◌<◌}
use native.Mathlib.Nat.{add-zero, zero-mul, suc-mul, sub-zero, add_assoc, mul-le-mul_right, le_trans, le-mul_of_pos_right}
use native.Mathlib.Numerals.{add-one}
use native.Mathlib.Omega.{arith}
use Rattle.std.proofs.Common.{zero-le}
use borrow.Author.Tests.{lt-ltb, le-ltb}
use mir.Val.{Fits}
use mir.Syntax.{w64}
use lib.Dec.{ltb}
use lib.ListN.{length, length-append}
use Rattle.std.proofs.lemmas.Bool.{cases_lt}
use Rattle.numbers.specs.Numbers.{pick, le}
use Rattle.numbers.specs.Places.{joined, filled_to}
use Rattle.numbers.proofs.Lists.{length_part}
use Rattle.numbers.proofs.Filling.{joined_append, joined_one}
use Rattle.numbers.proofs.Numbers.{le_length}
use Rattle.format.specs.declared.Request.{Request}
use Rattle.node_info.specs.declared.ChildPointer.{ChildPointer}
use Rattle.node_info.specs.Table.{pointer_size}
use Rattle.format.specs.Bytes.{internal_signature, address}
use Rattle.format.specs.Fields.{front_fields, end_fields, with_end, record_fields}
use Rattle.format.proofs.Fields.{records_joined, records_many}
use Rattle.btree_v2_stamp.specs.Stamped.{stamped}
use Rattle.btree_v2_write.specs.declared.filling.Filling.{Filling}
use Rattle.btree_v2_write.specs.declared.node.Child.{Child}
use Rattle.btree_v2_write.specs.declared.node.InternalNode.{InternalNode}
use Rattle.btree_v2_write.specs.Filled.{Filled, start}
use Rattle.btree_v2_write.specs.Shares.{two_sizes, with_one, records_after, pointer_to, pointers_to, nodes_of_all, pointer_of, PointerFits, PointersFit, InternalNodeFits, child_shares, children_of, content_fields, internal_node_fields}
use Rattle.btree_v2_write.proofs.Puts.{filled_nothing, filled_then, filled_long, front_place, node_filled}

-- The children from child i on: child i and those after it.
module _ {A : Type 0} (k e : ℕ) (large small : A) where
  abbrev pub from : ℕ → List A
  from i = two_sizes (k - i) (e - i) large small

  pub from_0 : from 0 ≡ two_sizes k e large small
  from_0 = rw (sub-zero, sub-zero)

  pub from_step : (i : ℕ) → i < k → from i ≡ pick (ltb i e) large small ∷ from (i + 1)
  unfolding two_sizes
  from_step i h =
      let some : k - i ≡ suc (k - (i + 1)) = omega arith in
      ⊎_elim
      (λ (l : i < e). let more : e - i ≡ suc (e - (i + 1)) = omega arith in rw (some, more, lt-ltb i e l))
      (λ (l : e ≤ i). let none : e - i ≡ 0 = omega arith in let none' : e - (i + 1) ≡ 0 = omega arith in rw (some, none, none', le-ltb i e l))
      (cases_lt i e)

  pub from_end : (i : ℕ) → k ≤ i → from i ≡ []
  unfolding two_sizes
  from_end i h = let none : k - i ≡ 0 = omega arith in rw none

pub from_first : {A : Type 0} (k e : ℕ) (large small : A)
    → two_sizes (k + 1) e large small ≡ pick (ltb 0 e) large small ∷ from (k + 1) e large small 1
from_first k e large small = sym (from_0 (k + 1) e large small) ∙ from_step (k + 1) e large small 0 (omega arith)

-- `put_own_records`: the node's own records, of rs bytes each.
module _ (rs : ℕ) (recs : List ℕ) (x : InternalNode) (front : Filling) where
  abbrev kept : ℕ
  kept = x.distributed.kept

  abbrev shares_from : ℕ → List ℕ
  shares_from i = from kept x.distributed.extra (x.distributed.base + 1) x.distributed.base i

  -- Before child i: the place, the record reached, and that what fills the rest fills the whole.
  pub record RecordsLeft (to : Filling) (next i : ℕ) : Type 0 where
    pub place : to.at ≡ front.at + i * rs
    pub reached : next + with_one (shares_from i) ≡ x.first.records + with_one (child_shares x)
    pub long : length to.node.now ≡ length front.node.now
    pub rest : (end : Filling) → Filled to (records_after rs recs (shares_from i) next) end
        → Filled front (records_after rs recs (child_shares x) x.first.records) end

  module _ (node : front.at + kept * rs ≤ length front.node.now) (room : (x.first.records + with_one (child_shares x)) * rs ≤ length recs) where
    module _ {to : Filling} {next i m : ℕ} (inv : RecordsLeft to next i) (h : i < kept) (share : m ≡ pick (ltb i x.distributed.extra) (x.distributed.base + 1) x.distributed.base) where
      record_left : shares_from i ≡ m ∷ shares_from (i + 1)
      record_left = rw share (from_step kept x.distributed.extra (x.distributed.base + 1) x.distributed.base i h)

      reached_next : next + m + 1 + with_one (shares_from (i + 1)) ≡ x.first.records + with_one (child_shares x)
      unfolding with_one
      reached_next = let e = rw record_left at inv.reached in omega (arith, e)

      -- The record is in the list, and its place in the node.
      pub record_there : (next + m + 1) * rs ≤ length recs
      record_there =
          let e = reached_next in
          let s : next + m + 1 ≤ x.first.records + with_one (child_shares x) = omega arith in
          le_trans (mul-le-mul_right rs s) room

      pub record_place_lem : to.at + 1 * rs ≤ length to.node.now
      record_place_lem =
          let s : suc i ≤ kept = h in
          let t = rw suc-mul at (mul-le-mul_right rs s) in
          omega (arith, inv.place, inv.long)

      pub records_turn : {to' : Filling} → Filled to (record_fields rs recs 1 (next + m)) to' → RecordsLeft to' (next + m + 1) (i + 1)
      unfolding records_after
      records_turn {to'} f =
          let many : length (joined (record_fields rs recs 1 (next + m))) ≡ 1 * rs =
          rw records_joined (length_part recs ((next + m) * rs) (1 * rs) (omega (arith, record_there))) in
          record {
            place = omega (arith, f.place, many, inv.place);
            reached = reached_next;
            long = filled_long f (omega (arith, f.place, many, record_place_lem)) ∙ inv.long;
            rest = λ end g. inv.rest end (rw record_left (filled_then (omega (arith, record_place_lem)) f g));
          }

  pub records_end_lem : {to : Filling} {next i : ℕ} → RecordsLeft to next i → kept ≤ i → Filled front (records_after rs recs (child_shares x) x.first.records) to
  unfolding records_after
  records_end_lem {to} {next} {i} inv h =
      inv.rest to (rw (from_end kept x.distributed.extra (x.distributed.base + 1) x.distributed.base i h) (filled_nothing to))

-- A node x among the n nodes from node j on, or the one after them: its number fits, and so does its address.
module _ (start j n ns : ℕ) (pos : 0 < ns) (short : start + (j + n) * ns < 2 ^ 64) (x : ℕ) (within : x ≤ j + n) where
  pub address_fits : start + x * ns < 2 ^ 64
  address_fits = omega (arith, mul-le-mul_right ns within)

  pub number_fits : Fits w64 x
  number_fits = omega (arith, le-mul_of_pos_right x pos, address_fits)

-- `put_pointer`: the address of the child's root and two fields more, one after another.
module _ {q : Request} {z : ChildPointer} {j : ℕ} (a : ℕ) {x : Child} {p p₁ : Filling} (fits : PointerFits q (length p.node.now) p.at x z j)
    (first : Filled p (le z.offset_size a ∷ []) p₁) where
  first_place : p₁.at ≡ p.at + z.offset_size
  first_place = rw (joined_one, le_length) at first.place

  first_long : length p₁.node.now ≡ length p.node.now
  first_long = filled_long first (omega (arith, first_place, fits.bytes))

  pub pointer_second : p₁.at + z.count_size ≤ length p₁.node.now
  pointer_second = omega (arith, first_place, fits.bytes, first_long)

  module _ {p₂ : Filling} (second : Filled p₁ (le z.count_size x.records ∷ []) p₂) where
    second_place : p₂.at ≡ p₁.at + z.count_size
    second_place = rw (joined_one, le_length) at second.place

    pub pointer_third : p₂.at + z.total_size ≤ length p₂.node.now
    pointer_third =
        let long = filled_long second (omega (arith, second_place, pointer_second)) in
        omega (arith, first_place, second_place, fits.bytes, first_long, long)

    pub pointer_put : a ≡ q.start + (j + (x.nodes - 1)) * q.geometry.node_size → {p₃ : Filling} → Filled p₂ (le z.total_size x.total ∷ []) p₃ → Filled p (pointer_to q z x j) p₃
    unfolding pointer_to address
    pointer_put is third =
        let within : p.at ≤ length p.node.now = omega (arith, fits.bytes) in
        let both = filled_then within (filled_then within first second) third in rw is at both

pointer_length : (q : Request) (p : ChildPointer) (x : Child) (j : ℕ) → length (joined (pointer_to q p x j)) ≡ pointer_size p
unfolding pointer_to joined
pointer_length q p x j = simp (length-append, le_length, add_assoc, add-zero)

pick_some : (b : Bool) (x y : Child) → 0 < x.nodes → 0 < y.nodes → 0 < (pick b x y).nodes
pick_some true x y h k = h
pick_some false x y h k = k

-- `put_pointers`, before child i: the place, the node reached, and that what fills the rest fills the whole.
module _ (q : Request) (x₀ : InternalNode) (front : Filling) where
  abbrev last : ℕ
  last = x₀.distributed.kept

  abbrev width : ℕ
  width = pointer_size (pointer_of q x₀)

  abbrev pointers : List Child → ℕ → List (List ℕ)
  pointers = pointers_to q (pointer_of q x₀)

  abbrev children_from : ℕ → List Child
  children_from i = from (last + 1) x₀.distributed.extra x₀.large x₀.small i

  pub record PointersLeft (to : Filling) (next i : ℕ) : Type 0 where
    pub place : to.at ≡ front.at + i * width
    pub reached : next + nodes_of_all (children_from i) ≡ x₀.first.nodes + nodes_of_all (children_of x₀)
    pub long : length to.node.now ≡ length front.node.now
    pub rest : (end : Filling) → Filled to (pointers (children_from i) next) end → Filled front (pointers (children_of x₀) x₀.first.nodes) end

  module _ {to : Filling} {next i : ℕ} {x : Child} (inv : PointersLeft to next i) (h : i < last + 1) (one : x ≡ pick (ltb i x₀.distributed.extra) x₀.large x₀.small) where
    pointer_left : children_from i ≡ x ∷ children_from (i + 1)
    pointer_left = rw one (from_step (last + 1) x₀.distributed.extra x₀.large x₀.small i h)

    next_reached : next + x.nodes + nodes_of_all (children_from (i + 1)) ≡ x₀.first.nodes + nodes_of_all (children_of x₀)
    unfolding nodes_of_all
    next_reached = let e = rw pointer_left at inv.reached in omega (arith, e)

    -- What `put_pointer` asks.
    module _ (fits : PointersFit q (length front.node.now) front.at x₀) where
      pointer_room : to.at + width ≤ length to.node.now
      pointer_room =
          let s : suc i ≤ last + 1 = h in
          let m = rw suc-mul at (mul-le-mul_right width s) in omega (arith, m, inv.place, inv.long, fits.bytes)

      pointer_short : q.start + (next + x.nodes) * q.geometry.node_size < 2 ^ 64
      pointer_short =
          let e = next_reached in
          let s : next + x.nodes ≤ x₀.first.nodes + nodes_of_all (children_of x₀) = omega arith in
          omega (arith, mul-le-mul_right q.geometry.node_size s, fits.short)

      pub pointer_fits : PointerFits q (length to.node.now) to.at x (pointer_of q x₀) next
      pointer_fits =
          record {
            bytes = pointer_room;
            some = rw one (pick_some (ltb i x₀.distributed.extra) x₀.large x₀.small fits.large fits.small);
            size = fits.size;
            short = pointer_short;
          }

      pub next_fits : Fits w64 (next + x.nodes)
      next_fits = omega (arith, le-mul_of_pos_right (next + x.nodes) fits.size, pointer_short)

      pub pointers_turn : {to' : Filling} → Filled to (pointer_to q (pointer_of q x₀) x next) to' → PointersLeft to' (next + x.nodes) (i + 1)
      unfolding pointers_to
      pointers_turn {to'} f =
          let many = pointer_length q (pointer_of q x₀) x next in
          record {
            place = rw (add-one, suc-mul) (omega (arith, f.place, many, inv.place));
            reached = next_reached;
            long = filled_long f (omega (arith, f.place, many, pointer_room)) ∙ inv.long;
            rest = λ end g. inv.rest end (rw pointer_left (filled_then (omega (arith, pointer_room)) f g));
          }

  pub pointers_end : {to : Filling} {next i : ℕ} → PointersLeft to next i → last + 1 ≤ i → Filled front (pointers (children_of x₀) x₀.first.nodes) to
  unfolding pointers_to
  pointers_end {to} {next} {i} inv h =
      inv.rest to (rw (from_end (last + 1) x₀.distributed.extra x₀.large x₀.small i h) (filled_nothing to))

-- How many fields the parts have, and how many bytes.
length_two : {A : Type 0} (k e : ℕ) (x y : A) → length (two_sizes k e x y) ≡ k
unfolding two_sizes
length_two zero e x y = refl
length_two (suc k) zero x y = ap suc (length_two k zero x y)
length_two (suc k) (suc e) x y = ap suc (length_two k e x y)

records_long : (rs : ℕ) (recs ms : List ℕ) (r : ℕ) → (r + with_one ms) * rs ≤ length recs → length (joined (records_after rs recs ms r)) ≡ length ms * rs
unfolding records_after with_one joined
records_long rs recs [] r h = sym (zero-mul rs)
records_long rs recs (m ∷ ms) r h =
    let next : (r + m + 1 + with_one ms) * rs ≤ length recs = rw (add_assoc (r + m) 1, add_assoc r m) (rw (add_assoc m 1) at h) in
    let less : suc (r + m) ≤ r + m + 1 + with_one ms = omega arith in
    let here : (r + m) * rs + 1 * rs ≤ length recs = omega (arith, mul-le-mul_right rs less, next) in
    rw (joined_append, length-append, records_joined, length_part recs ((r + m) * rs) (1 * rs) here, records_long rs recs ms (r + m + 1) next, suc-mul) (omega arith)

pub own_many : (rs : ℕ) (recs ms : List ℕ) (r : ℕ) → length (records_after rs recs ms r) ≡ length ms
unfolding records_after
own_many rs recs [] r = refl
own_many rs recs (m ∷ ms) r = rw (length-append, records_many, own_many rs recs ms (r + m + 1)) (omega arith)

module _ (q : Request) (p : ChildPointer) where
  pointers_long : (xs : List Child) (j : ℕ) → length (joined (pointers_to q p xs j)) ≡ length xs * pointer_size p
  unfolding pointers_to joined
  pointers_long [] j = sym (zero-mul (pointer_size p))
  pointers_long (x ∷ xs) j =
      rw (joined_append, length-append, pointer_length q p x j, pointers_long xs (j + x.nodes), suc-mul) (omega arith)

  pub pointers_many : (xs : List Child) (j : ℕ) → length (pointers_to q p xs j) ≡ 3 * length xs
  unfolding pointers_to pointer_to
  pointers_many [] j = refl
  pointers_many (x ∷ xs) j = rw (length-append, pointers_many xs (j + x.nodes)) (omega arith)

-- `fill_internal`: front, own records, pointers, checksum, zeros.
module _ {q : Request} (recs : List ℕ) {x : InternalNode} (fits : InternalNodeFits q (length recs) x) where
  abbrev own : List (List ℕ)
  own = records_after q.geometry.record_size recs (child_shares x) x.first.records

  abbrev ptrs : List (List ℕ)
  ptrs = pointers_to q (pointer_of q x) (children_of x) x.first.nodes

  own_long : length (joined own) ≡ x.distributed.kept * q.geometry.record_size
  own_long = rw (records_long q.geometry.record_size recs (child_shares x) x.first.records fits.in_list, length_two)

  contents_long : length (joined (content_fields q recs x)) ≡ x.distributed.kept * q.geometry.record_size + (x.distributed.kept + 1) * pointer_size (pointer_of q x)
  unfolding content_fields
  contents_long = rw (joined_append, length-append, own_long, pointers_long, length_two)

  module _ (front : Filling) (h : q.geometry.node_size ≤ length front.node.now) (at : front.at ≡ 6) where
    pub own_room : front.at + x.distributed.kept * q.geometry.record_size ≤ length front.node.now
    own_room = omega (arith, fits.bytes)

    module _ {mid : Filling} (f : Filled front own mid) where
      pub pointers_fit : PointersFit q (length mid.node.now) mid.at x
      pointers_fit =
          record {
            bytes = rw (filled_long f (omega (arith, f.place, own_long, fits.bytes))) (omega (arith, f.place, own_long, fits.bytes));
            large = fits.some.0;
            small = fits.some.1;
            size = omega (arith, fits.bytes);
            short = fits.short;
          }

      pub contents_put : {end : Filling} → Filled mid ptrs end → Filled front (content_fields q recs x) end
      unfolding content_fields
      contents_put g = filled_then (omega (arith, fits.bytes)) f g

  module _ {m : MutBor (List ℕ)} {budget : ℕ} {front : Filling} (f : Filled (start m budget) (front_fields internal_signature q.tree_type) front) where
    pub internal_front : front.at ≡ 6
    internal_front = front_place internal_signature q.tree_type refl f

    module _ (h : q.geometry.node_size ≤ length m.now) where
      pub internal_room : q.geometry.node_size ≤ length front.node.now
      internal_room = let long = filled_long f (omega (arith, internal_front, fits.bytes)) in omega (arith, long)

      pub internal_filled : {end : Filling} → Filled front (content_fields q recs x) end → {z : List ℕ}
          → z ≡ stamped end.node.now end.at q.geometry.node_size end.left → z ≡ filled_to budget (internal_node_fields q recs x) m.now
      unfolding internal_node_fields
      internal_filled g hz =
          node_filled (filled_then zero-le f g) (omega (arith, internal_front, g.place, contents_long, fits.bytes)) h hz

-- A node has fewer fields than the budget of a whole one.
pub internal_few : (q : Request) (recs : List ℕ) (x : InternalNode) → x.distributed.kept < 2 ^ 24 → length (internal_node_fields q recs x) ≤ 2 ^ 32
unfolding internal_node_fields content_fields with_end end_fields front_fields
internal_few q recs x few = simp (length-append, own_many, pointers_many, length_two) (omega arith)
