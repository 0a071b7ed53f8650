-- Filling a leaf within a budget of fields; a node in its place of the image.
use mathlib.Core.Path.{◌≡◌, refl}
use Rattle.std.specs.Borrow.{MutBor}
use mathlib.Core.List.{List, append-nil}
use Prim.Native.Nat.{ℕ, ◌+◌, ◌-◌, ◌*◌, ◌≤◌}
use native.Mathlib.Nat.{add-zero, le_of_eq}
use native.Mathlib.Omega.{arith}
use Rattle.std.proofs.Common.{zero-le}
use borrow.Rule.Slice.PartMut.{put_mid}
use lib.ListN.{length, take, drop, length-drop}
use lib.Seq.{take_all, drop-length}
use Rattle.numbers.specs.Numbers.{part}
use Rattle.numbers.specs.Places.{stored, joined, filled_to}
use Rattle.numbers.proofs.Lists.{stored_drop, length_part}
use Rattle.numbers.proofs.Filling.{filled_stored}
use Rattle.format.specs.Bytes.{leaf_signature}
use Rattle.format.specs.Fields.{front_fields, leaf_fields, record_fields}
use Rattle.format.proofs.Fields.{records_joined}
use Rattle.format.specs.declared.Request.{Request}
use Rattle.btree_v2_stamp.specs.Stamped.{stamped}
use Rattle.btree_v2_write.specs.declared.filling.Filling.{Filling}
use Rattle.btree_v2_write.specs.Filled.{Filled, start}
use Rattle.btree_v2_write.proofs.Puts.{filled_then, filled_long, front_place, node_filled}

-- `fill_leaf`: what it asks of its records' place; and front, records, checksum, zeros.
module _ (q : Request) (recs : List ℕ) (n r : ℕ) {budget : ℕ} {m : MutBor (List ℕ)} (room : q.geometry.node_size ≤ length m.now)
    (bytes : 10 + n * q.geometry.record_size ≤ q.geometry.node_size) {front : Filling} (f : Filled (start m budget) (front_fields leaf_signature q.tree_type) front) where
  pub leaf_place : front.at + n * q.geometry.record_size ≤ length front.node.now
  leaf_place =
      let at = front_place leaf_signature q.tree_type refl f in
      let long = filled_long f (omega arith) in omega (arith, at, long)

  pub leaf_filled : (r + n) * q.geometry.record_size ≤ length recs → {end : Filling} → Filled front (record_fields q.geometry.record_size recs n r) end → {z : List ℕ}
      → z ≡ stamped end.node.now end.at q.geometry.node_size end.left → z ≡ filled_to budget (leaf_fields q recs n r) m.now
  unfolding leaf_fields
  leaf_filled list {end} g hz =
      let rs = q.geometry.record_size in
      let long : length (joined (record_fields rs recs n r)) ≡ n * rs = rw records_joined (length_part recs (r * rs) (n * rs) (omega arith)) in
      node_filled (filled_then zero-le f g) (omega (arith, front_place leaf_signature q.tree_type refl f, g.place, long)) room hz

-- A node filled from the front of what follows its place.
pub node_placed : (o d : List ℕ) (a budget : ℕ) (fields : List (List ℕ)) → a ≤ length o → d ≡ filled_to budget fields (part o a (length o - a))
    → put_mid a (length o - a) o d ≡ stored o a (joined (take budget fields))
node_placed o d a budget fields h e =
    rw (e, filled_stored, take_all (length o - a) (drop a o) (le_of_eq (length-drop a o)), ← length-drop a o, drop-length, append-nil, stored_drop, add-zero)
