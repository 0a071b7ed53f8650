-- What stands around the contents of a node: its front, and the checksum and the zeros after them, as much of it as a budget says. Bytes are put
-- front to back, each right after those before it.
use mathlib.Core.Path.{◌≡◌, refl, sym, ap, ◌∙◌}
use mathlib.Core.Bool.{and-false}
use mathlib.Core.Logic.{⊎_elim}
use mathlib.Core.List.{List, [], ◌∷◌, ◌++◌, append_assoc, append-nil}
use Prim.Native.Nat.{ℕ, ◌+◌, ◌-◌, ◌≤◌, ◌<◌}
use native.Mathlib.Nat.{zero-add}
use native.Mathlib.Omega.{arith}
use borrow.Rule.Slice.PartMut.{put_mid}
use Rattle.std.proofs.Common.{zero-le}
use borrow.Author.Tests.{le-leb, lt-leb}
use lib.ListN.{length, set, take, replicate, length-append, length-replicate}
use lib.Seq.{drop-drop, take_all, length-take-le}
use Rattle.std.proofs.lemmas.Bool.{cases_lt}
use Rattle.numbers.specs.Numbers.{le, part}
use Rattle.numbers.specs.Places.{stored, put, joined}
use Rattle.numbers.proofs.Lists.{stored_is, stored_nil, stored_snoc, stored_append, take_stored_end, length_stored, length_part, put_fits}
use Rattle.numbers.proofs.Filling.{joined_one, filled_turn, length_filled, filled_stored, filled_none}
use Rattle.numbers.proofs.Numbers.{le_length}
use Rattle.checksum.specs.Lookup3.{lookup3}
use Rattle.format.specs.Bytes.{padded}
use Rattle.format.specs.Fields.{front_fields, end_fields, with_end}
use Rattle.format.proofs.Fields.{end_joined}
use Rattle.btree_v2_stamp.specs.Stamped.{fronted, stamped}

-- `put_front`: no six bytes; or as many fields as the budget says, at the front.
module _ (o s : List ℕ) (type k : ℕ) where
  pub front_short : length o < 6 → o ≡ fronted o s type k
  unfolding fronted
  front_short h = rw (lt-leb 6 (length o) h)

  module _ (h : 6 ≤ length o) where
    pub fronted_is : fronted o s type k ≡ stored o 0 (joined (take k (front_fields s type)))
    unfolding fronted
    fronted_is = rw (le-leb 6 (length o) h) (filled_stored k (front_fields s type) o)

    pub front_none : k < 1 → o ≡ fronted o s type k
    front_none l =
        let e : k ≡ 0 = omega arith in rw (fronted_is, e) (sym (filled_none (front_fields s type) o) ∙ filled_stored 0 _ o)

    -- c has the signature at the front, and one byte is put after another.
    module _ (c : List ℕ) (is : c ≡ put o 0 s) (four : length s ≡ 4) where
      signed : c ≡ stored o 0 s
      signed = rw (is, put_fits o 0 s (rw (zero-add, four) (omega (arith, h))))

      next_byte : (b : List ℕ) (m x : ℕ) → m ≡ length b → m < length o → set (stored o 0 b) m x ≡ stored o 0 (b ++ (x ∷ []))
      next_byte b m x e l = rw (zero-add, ← e) at (stored_snoc o 0 b x (omega arith))

      versioned : set (c) 4 0 ≡ stored o 0 (s ++ (0 ∷ []))
      versioned = rw signed (next_byte s 4 0 (sym four) (omega arith))

      pub front_signed : k < 2 → 1 ≤ k → c ≡ fronted o s type k
      unfolding front_fields joined
      front_signed l m = let e : k ≡ 1 = omega arith in rw (fronted_is, e, append-nil) signed

      pub front_versioned : k < 3 → 2 ≤ k → set (c) 4 0 ≡ fronted o s type k
      unfolding front_fields joined
      front_versioned l m = let e : k ≡ 2 = omega arith in rw (fronted_is, e) versioned

      pub front_whole : 3 ≤ k → set (set (c) 4 0) 5 type ≡ fronted o s type k
      unfolding front_fields joined
      front_whole m =
          rw (fronted_is, take_all k (front_fields s type) m, versioned, next_byte (s ++ (0 ∷ [])) 5 type (rw (length-append, four)) h, append_assoc)

pub ruleset fronts = (front_short, front_none, front_signed, front_versioned, front_whole)

-- A part that was lent, back at its place.
pub mid_stored : (o : List ℕ) (a k : ℕ) (b : List ℕ) → k ≡ length b → put_mid a k o b ≡ stored o a b
mid_stored o a k b e = rw (stored_is, e, drop-drop)

-- `stamp`: no room; or as many fields as the budget says, after what is there.
module _ (o : List ℕ) (used ns k : ℕ) where
  pub stamp_long : length o < ns → o ≡ stamped o used ns k
  unfolding stamped
  stamp_long h = rw (lt-leb ns (length o) h, and-false)

  no_sum : ns < used + 4 → o ≡ stamped o used ns k
  unfolding stamped
  no_sum h = rw (lt-leb (used + 4) ns h)

  pub stamp_small : ns < 4 → o ≡ stamped o used ns k
  stamp_small h = no_sum (omega arith)

  pub stamp_full : 4 ≤ ns → ns - 4 < used → o ≡ stamped o used ns k
  stamp_full h l = no_sum (omega arith)

  module _ (small : 4 ≤ ns) (room : used ≤ ns - 4) (l : ns ≤ length o) where
    h : used + 4 ≤ ns
    h = omega arith

    pub stamped_is : stamped o used ns k ≡ stored o used (joined (take k (end_fields ns (take used o))))
    unfolding stamped
    stamped_is = rw (le-leb (used + 4) ns h, le-leb ns (length o) l)

    pub stamp_none : k < 1 → o ≡ stamped o used ns k
    unfolding joined
    stamp_none m = let e : k ≡ 0 = omega arith in rw (stamped_is, e, stored_nil)

    module _ (d : List ℕ) (sum : ℕ) (hs : sum ≡ lookup3 (take used o)) (hd : d ≡ put o used (le 4 sum)) where
      four : used + length (le 4 sum) ≤ length o
      four = rw le_length (omega (arith, h))

      sum_put : d ≡ stored o used (le 4 sum)
      sum_put = rw (hd, put_fits o used (le 4 sum) four)

      pub stamp_sum : k < 2 → 1 ≤ k → d ≡ stamped o used ns k
      unfolding end_fields joined
      stamp_sum m n = let e : k ≡ 1 = omega arith in rw (stamped_is, e, ← hs, append-nil) sum_put

      pub stamp_put : (z : List ℕ) → 2 ≤ k → z ≡ replicate (length (part d (used + 4) (ns - (used + 4)))) 0
          → put_mid (used + 4) (ns - (used + 4)) d z ≡ stamped o used ns k
      unfolding end_fields joined
      stamp_put z m hz =
          let zeros = ns - (used + 4) in
          let len : length d ≡ length o = rw sum_put (length_stored o used (le 4 sum) four) in
          let many : length (part d (used + 4) zeros) ≡ zeros = length_part d (used + 4) zeros (omega (arith, h)) in
          let is : z ≡ replicate zeros 0 = rw many at hz in
          let full = take_all k (end_fields ns (take used o)) m in
          rw (stamped_is, full, ← hs, append-nil, length-take-le used o (omega (arith, h)), mid_stored d (used + 4) zeros z (rw (is, length-replicate)), is, sum_put)
          (rw le_length at (stored_append o used (le 4 sum) (omega (arith, h)) (replicate zeros 0)))

pub ruleset stamps = (stamp_long, stamp_small, stamp_full, stamp_none, stamp_sum, stamp_put)

-- Fields at the front of a node, within a budget, and the node's end within what is left of it.
pub node_stamped : (o d z : List ℕ) (fields : List (List ℕ)) (k used ns left : ℕ) → d ≡ stored o 0 (joined (take k fields))
    → used ≡ length (joined fields) → left ≡ k - length fields → used + 4 ≤ ns → ns ≤ length o → z ≡ stamped d used ns left
    → z ≡ stored o 0 (joined (take k (with_end ns fields)))
unfolding with_end
node_stamped o d z fields k used ns left hd hu hl h l hz =
    let len : length d ≡ length o = rw hd (length_filled o 0 k fields (omega arith)) in
    let same : take left (end_fields ns (take used d)) ≡ take left (end_fields ns (joined fields)) =
    ⊎_elim
    (λ (m : k < length fields). let none : left ≡ 0 = omega arith in rw none)
    (λ (m : length fields ≤ k).
    let all = take_all k fields m in
    let front : take used d ≡ joined fields = rw (hd, all, hu) (rw zero-add at (take_stored_end o 0 (joined fields) zero-le)) in rw front)
    (cases_lt k (length fields)) in
    rw (hz, stamped_is d used ns left (omega arith) (omega arith) (rw len l), same, hl, hd) (filled_turn o 0 used k fields (end_fields ns (joined fields)) zero-le (rw zero-add hu))

end_few : (ns : ℕ) (b : List ℕ) → length (with_end ns (b ∷ [])) ≤ 3
unfolding with_end end_fields
end_few ns b = omega arith

-- The same of contents that were put whole.
pub whole_stamped : (o d z b : List ℕ) (used ns : ℕ) → d ≡ stored o 0 b → used ≡ length b → used + 4 ≤ ns → ns ≤ length o
    → z ≡ stamped d used ns 2 → z ≡ stored o 0 (padded ns b)
whole_stamped o d z b used ns hd hu h l hz =
    let one = joined_one b in
    let end = node_stamped o d z (b ∷ []) 3 used ns 2 (rw one hd) (rw one hu) refl h l hz in
    end ∙ ap (stored o 0) (ap joined (take_all 3 (with_end ns (b ∷ [])) (end_few ns b)) ∙ end_joined ns (b ∷ []) ∙ ap (padded ns) one)

-- What was put after the front of a node.
pub after_front : (o d e f t : List ℕ) (k : ℕ) → k ≡ length f → d ≡ stored o 0 f → e ≡ stored d k t → e ≡ stored o 0 (f ++ t)
after_front o d e f t k hk hd he = rw (he, hd, hk) (rw zero-add at (stored_append o 0 f zero-le t))
