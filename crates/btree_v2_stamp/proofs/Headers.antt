-- Filling the header, field after field.
use mathlib.Core.Path.{◌≡◌, refl, sym, ◌∙◌}
use mathlib.Core.List.{List, [], ◌∷◌, ◌++◌, append_assoc, append-nil}
use Prim.Native.Nat.{ℕ, ◌+◌, ◌-◌, ◌≤◌, ◌<◌}
use native.Mathlib.Omega.{arith}
use lib.ListN.{length, length-append}
use Rattle.numbers.specs.Numbers.{le}
use Rattle.numbers.specs.Places.{stored, put, joined}
use Rattle.numbers.proofs.Lists.{length_stored, put_fits, put_not}
use Rattle.numbers.proofs.Numbers.{le_length}
use Rattle.checksum.specs.Lookup3.{lookup3}
use Rattle.format.specs.Bytes.{header_size, summed, padded, header_bytes}
use Rattle.format.proofs.HeaderLengths.{length_header}
use Rattle.format.specs.declared.Request.{Request}
use Rattle.btree_v2_stamp.specs.Header.{fixed_bytes}
use Rattle.format.specs.Fields.{front_fields}
use Rattle.btree_v2_stamp.specs.Stamped.{fronted, stamped}
use Rattle.btree_v2_stamp.proofs.Frames.{fronted_is, after_front, whole_stamped}

-- A field right after those before it.
next_field : (o d e f : List ℕ) (p w x : ℕ) → p + w ≤ length o → d ≡ stored o 0 f → p ≡ length f → e ≡ put d p (le w x)
    → e ≡ stored o 0 (f ++ le w x)
next_field o d e f p w x h hd hp he =
    let len : length d ≡ length o = rw hd (length_stored o 0 f (omega arith)) in
    after_front o d e f (le w x) p hp hd (he ∙ put_fits d p (le w x) (rw (le_length, len) h))

length_fixed : (q : Request) (depth : ℕ) → length (fixed_bytes q depth) ≡ 16
unfolding fixed_bytes
length_fixed q depth = simp (length-append, le_length)

-- `put_fixed`
pub fixed_put : (q : Request) (depth : ℕ) (o a b c d e f : List ℕ) → 16 ≤ length o
    → a ≡ fronted o (66 ∷ 84 ∷ 72 ∷ 68 ∷ []) q.tree_type 3 → b ≡ put a 6 (le 4 q.geometry.node_size)
    → c ≡ put b 10 (le 2 q.geometry.record_size) → d ≡ put c 12 (le 2 depth) → e ≡ put d 14 (le 1 100) → f ≡ put e 15 (le 1 40)
    → f ≡ stored o 0 (fixed_bytes q depth)
unfolding fixed_bytes le front_fields joined
fixed_put q depth o a b c d e f h ha hb hc hd he hf =
    let front : List ℕ = 66 ∷ 84 ∷ 72 ∷ 68 ∷ 0 ∷ q.tree_type ∷ [] in
    let s = fronted_is o (66 ∷ 84 ∷ 72 ∷ 68 ∷ []) q.tree_type 3 (omega arith) in
    let sized = front ++ le 4 q.geometry.node_size in
    let recorded = sized ++ le 2 q.geometry.record_size in
    let deep = recorded ++ le 2 depth in
    let x = next_field o a b front 6 4 q.geometry.node_size (omega arith) (ha ∙ s) refl hb in
    let y = next_field o b c sized 10 2 q.geometry.record_size (omega arith) x refl hc in
    let z = next_field o c d recorded 12 2 depth (omega arith) y refl hd in
    let u = next_field o d e deep 14 1 100 (omega arith) z refl he in
    next_field o e f (deep ++ le 1 100) 15 1 40 h u refl hf

-- A node without zeros; the header's bytes before its checksum.
padded_exact : (b : List ℕ) (m : ℕ) → m ≡ length b + 4 → padded m b ≡ summed b
unfolding padded summed
padded_exact b m e =
    let z : m - length (b ++ le 4 (lookup3 b)) ≡ 0 = rw (length-append, le_length) (omega arith) in rw (z, append-nil)

header_bytes_lem : (q : Request) (depth root root_records n : ℕ)
    → summed (((fixed_bytes q depth ++ le q.geometry.offset_size root) ++ le 2 root_records) ++ le q.length_size n) ≡ header_bytes q depth root root_records n
unfolding fixed_bytes header_bytes
header_bytes_lem q depth root root_records n = simp append_assoc

-- `write_header`: no room, and field after field.
module _ (q : Request) (depth root n total : ℕ) (o : List ℕ) where
  abbrev ow : ℕ
  ow = q.geometry.offset_size

  abbrev lw : ℕ
  lw = q.length_size

  abbrev bytes : List ℕ
  bytes = header_bytes q depth root n total

  pub header_short : length o < header_size ow lw → o ≡ put o 0 bytes
  header_short h = sym (put_not o 0 bytes (rw length_header (omega arith)))

  pub header_put : (a b c d z : List ℕ) → header_size ow lw ≤ length o → a ≡ stored o 0 (fixed_bytes q depth) → b ≡ put a 16 (le ow root)
      → c ≡ put b (16 + ow) (le 2 n) → d ≡ put c (18 + ow) (le lw total)
      → z ≡ stamped d (header_size ow lw - 4) (header_size ow lw) 2 → z ≡ put o 0 bytes
  header_put a b c d z h ha hb hc hd hz =
      let f = fixed_bytes q depth ++ le ow root in
      let lf : length f ≡ 16 + ow = rw (length-append, length_fixed, le_length) in
      let lg : length (f ++ le 2 n) ≡ 18 + ow = rw (length-append, lf, le_length) (omega arith) in
      let whole = (f ++ le 2 n) ++ le lw total in
      let end : length whole ≡ header_size ow lw - 4 = rw (length-append, lg, le_length) (omega arith) in
      let x = next_field o a b (fixed_bytes q depth) 16 ow root (omega arith) ha (sym (length_fixed q depth)) hb in
      let y = next_field o b c f (16 + ow) 2 n (omega arith) x (sym lf) hc in
      let w = next_field o c d (f ++ le 2 n) (18 + ow) lw total (omega arith) y (sym lg) hd in
      let s = whole_stamped o d z whole (header_size ow lw - 4) (header_size ow lw) w (sym end) (omega arith) h hz in
      rw (put_fits o 0 bytes (rw length_header (omega arith)), ← header_bytes_lem, ← padded_exact whole (header_size ow lw) (omega arith)) s
