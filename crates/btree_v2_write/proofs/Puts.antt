-- Fields put one after another, within a budget: puts compose, and a node's end comes after its fields.
use mathlib.Core.Path.{◌≡◌, refl, ap, ◌∙◌}
use Rattle.std.specs.Borrow.{MutBor}
use mathlib.Core.List.{List, [], ◌∷◌, ◌++◌}
use Prim.Native.Nat.{ℕ, zero, suc, ◌+◌, ◌-◌, ◌*◌, ◌≤◌, ◌<◌, min}
use native.Mathlib.Nat.{add-sub_cancel_left, add-zero, zero-add, sub-zero, mul-le-mul_right, zero-min, min-zero, suc-min-suc}
use native.Mathlib.Omega.{arith}
use lib.ListN.{length, take, length-append}
use borrow.Rule.Slice.PartMut.{put_mid}
use lib.Seq.{take-nil, take_all}
use Rattle.numbers.specs.Numbers.{le, part}
use Rattle.numbers.specs.Places.{put, joined, filled_to}
use Rattle.numbers.proofs.Lists.{stored_nil, length_part, put_fits}
use Rattle.numbers.proofs.Numbers.{le_length}
use Rattle.numbers.proofs.Filling.{joined_append, joined_one, filled_turn, length_filled, filled_stored}
use Rattle.format.specs.Fields.{front_fields, with_end, record_fields}
use Rattle.format.proofs.Fields.{records_joined, records_many}
use Rattle.btree_v2_stamp.specs.Stamped.{fronted, stamped}
use Rattle.btree_v2_stamp.proofs.Frames.{fronted_is, mid_stored, node_stamped}
use Rattle.btree_v2_write.specs.declared.filling.Filling.{Filling}
use Rattle.btree_v2_write.specs.Filled.{Filled, Passed, start}

-- No field; fields and then others.
pub filled_nothing : (p : Filling) → Filled p [] p
unfolding joined
filled_nothing p =
    record {
      same = refl;
      bytes = rw (take-nil, stored_nil);
      place = rw add-zero;
      left = rw sub-zero;
    }

pub filled_then : {p q r : Filling} {a b : List (List ℕ)} → p.at ≤ length p.node.now → Filled p a q → Filled q b r → Filled p (a ++ b) r
filled_then {p} {q} {r} {a} {b} h f g =
    record {
      same = g.same ∙ f.same;
      bytes = rw (g.bytes, f.bytes, f.left) (filled_turn p.node.now p.at q.at p.left a b h f.place);
      place = rw (joined_append, length-append) (omega (arith, f.place, g.place));
      left = rw length-append (omega (arith, f.left, g.left));
    }

pub filled_long : {p q : Filling} {a : List (List ℕ)} → Filled p a q → q.at ≤ length p.node.now → length q.node.now ≡ length p.node.now
filled_long {p} {q} {a} f h = rw f.bytes (length_filled p.node.now p.at p.left a (omega (arith, f.place)))

-- `put_number`: nothing is left, or one field is put; and the place goes on.
module _ (p d to : Filling) (x width : ℕ) (go : Passed d 1 width to) (name : d.node.ghost_name ≡ p.node.ghost_name) (at : d.at ≡ p.at) (left : d.left ≡ p.left) where
  place_one : to.at ≡ p.at + length (joined (le width x ∷ []))
  place_one = rw (joined_one, le_length) (go.place ∙ ap (λ n. n + width) at)

  left_one : to.left ≡ p.left - 1
  left_one = go.left ∙ ap (λ n. n - 1) left

  name_kept : to.node.ghost_name ≡ p.node.ghost_name
  name_kept = ap (λ (m : MutBor (List ℕ)). m.ghost_name) go.same ∙ name

  pub number_none : p.left ≤ 0 → d.node.now ≡ p.node.now → Filled p (le width x ∷ []) to
  unfolding joined
  number_none h e =
      let none : p.left ≡ 0 = omega arith in
      record { same = name_kept; bytes = rw (go.same, e, none, stored_nil); place = place_one; left = left_one }

  pub number_put : p.at + width ≤ length p.node.now → 0 < p.left → d.node.now ≡ put p.node.now p.at (le width x) → Filled p (le width x ∷ []) to
  number_put h some e =
      record {
        same = name_kept;
        bytes = rw (go.same, e, take_all p.left (le width x ∷ []) (omega arith), joined_one, put_fits p.node.now p.at (le width x) (rw le_length h));
        place = place_one;
        left = left_one;
      }

-- The first k of n records.
take_records : (size : ℕ) (recs : List ℕ) (k n r : ℕ) → take k (record_fields size recs n r) ≡ record_fields size recs (min n k) r
unfolding record_fields
take_records size recs k zero r = rw (zero-min, take-nil)
take_records size recs zero (suc n) r = rw min-zero
take_records size recs (suc k) (suc n) r = rw (suc-min-suc, take_records size recs k n (r + 1))

-- `put_records`: as many of them as are left, in one copy.
module _ (p : Filling) (recs : List ℕ) (size n r m : ℕ) (fewer : m ≡ min n p.left) where
  records_take : take p.left (record_fields size recs n r) ≡ record_fields size recs m r
  records_take = rw fewer (take_records size recs p.left n r)

  module _ (room : (r + n) * size ≤ length recs) where
    pub records_some : r * size + m * size ≤ length recs
    records_some =
        let less : r + m ≤ r + n = omega arith in
        omega (arith, mul-le-mul_right size less, room)

    module _ (node : p.at + n * size ≤ length p.node.now) where
      pub records_put_lem : {d to : Filling} → Passed d n (n * size) to → d.node.ghost_name ≡ p.node.ghost_name → d.at ≡ p.at → d.left ≡ p.left
          → {c : List ℕ} → c ≡ part recs (r * size) (r * size + m * size - r * size) → d.node.now ≡ put_mid p.at (p.at + m * size - p.at) p.node.now c
          → Filled p (record_fields size recs n r) to
      records_put_lem {d} {to} go name at left {c} copied e =
          let long : length (joined (record_fields size recs n r)) ≡ n * size =
          rw records_joined (length_part recs (r * size) (n * size) (omega arith)) in
          let is : c ≡ part recs (r * size) (m * size) = rw add-sub_cancel_left at copied in
          let whole : p.at + m * size - p.at ≡ length c = rw (is, add-sub_cancel_left, length_part recs (r * size) (m * size) records_some) in
          record {
            same = ap (λ (m : MutBor (List ℕ)). m.ghost_name) go.same ∙ name;
            bytes = rw (go.same, e, mid_stored p.node.now p.at (p.at + m * size - p.at) c whole, is, records_take, records_joined);
            place = rw long (go.place ∙ ap (λ k. k + n * size) at);
            left = rw records_many (go.left ∙ ap (λ k. k - n) left);
          }

-- `begin`, and the place after the front.
module _ {m : MutBor (List ℕ)} (s : List ℕ) (type : ℕ) {budget : ℕ} {to : Filling} where
  pub front_put : length s ≡ 4 → 6 ≤ length m.now → to.node.ghost_name ≡ m.ghost_name → to.node.now ≡ fronted m.now s type budget → to.at ≡ 6
      → to.left ≡ budget - 3 → Filled (start m budget) (front_fields s type) to
  unfolding joined front_fields
  front_put four h name e at left =
      record { same = name; bytes = rw (e, fronted_is m.now s type budget h); place = rw (length-append, four) at; left = left }

  pub front_place : length s ≡ 4 → Filled (start m budget) (front_fields s type) to → to.at ≡ 6
  unfolding joined front_fields
  front_place four f = rw (length-append, four) at f.place

-- A node's end, after its fields.
pub node_filled : {m : MutBor (List ℕ)} {z : List ℕ} {budget ns : ℕ} {to : Filling} {fields : List (List ℕ)} → Filled (start m budget) fields to
    → to.at + 4 ≤ ns → ns ≤ length m.now → z ≡ stamped to.node.now to.at ns to.left → z ≡ filled_to budget (with_end ns fields) m.now
node_filled {m} {z} {budget} {ns} {to} {fields} f h l hz =
    rw filled_stored (node_stamped m.now to.node.now z fields budget to.at ns to.left f.bytes (rw zero-add at f.place) f.left h l hz)

-- What is so of the filled node is so of what the borrow of it leaves.
pub left_behind : {A : Type 0} {x y z : A} → y ≡ z → x ≡ y → x ≡ z
left_behind e f = f ∙ e
