-- A step of the walk that puts bytes out and counts: given room, it is fine, its counts are added, and its bytes stand after those that
-- were there.
use mathlib.Core.Path.{◌≡◌, refl}
use mathlib.Core.List.{List, [], ◌++◌}
use Prim.Native.Nat.{ℕ, zero, suc, ◌+◌, ◌*◌, ◌≤◌}
use native.Mathlib.Nat.{add_assoc, add-zero, zero-mul, one-mul}
use native.Mathlib.Omega.{arith}
use lib.ListN.{length, length-append}
use borrow.Author.Tests.{le-leb}
use Rattle.numbers.specs.Numbers.{part}
use Rattle.numbers.specs.Places.{stored}
use Rattle.numbers.proofs.Lists.{length_part, part_add, stored_nil, stored_append, length_stored}
use Rattle.btree_v2_collect.specs.Walk.{Counts, Run, fine, and_then, put_record, records_put}
use Rattle.node_info.specs.declared.Geometry.{Geometry}

-- Counts added, and counts by their four numbers.
abbrev pub sum : Counts → Counts → Counts
sum c t =
    record {
      records = c.records + t.records;
      leaves = c.leaves + t.leaves;
      internals = c.internals + t.internals;
      internal_records = c.internal_records + t.internal_records;
    }

abbrev pub tally : ℕ → ℕ → ℕ → ℕ → Counts
tally r l i k = record { records = r; leaves = l; internals = i; internal_records = k }

sum_assoc : (c t u : Counts) → sum (sum c t) u ≡ sum c (sum t u)
sum_assoc c t u = simp add_assoc

-- Steps that put out records of rs bytes.
module _ (rs : ℕ) where
  pub record Puts (step : Counts → List ℕ → Run) (b : List ℕ) (t : Counts) : Type 0 where
    pub whole : length b ≡ t.records * rs
    pub runs : (c : Counts) (o : List ℕ) → (c.records + t.records) * rs ≤ length o
        → step c o ≡ fine (sum c t) (stored o (c.records * rs) b)

  -- One step after another.
  pub puts_then : {f g : Counts → List ℕ → Run} {b d : List ℕ} {t u : Counts} → Puts f b t → Puts g d u
      → Puts (λ c o. and_then (f c o) g) (b ++ d) (sum t u)
  puts_then {f} {g} {b} {d} {t} {u} p q =
      record {
        whole = rw (length-append, p.whole, q.whole) (omega arith);
        runs = λ c o h.
            let p1 = p.whole in
            let fits : c.records * rs + length b ≤ length o = omega arith in
            let place : (c.records + t.records) * rs ≡ c.records * rs + length b = omega arith in
            rw (p.runs c o (omega arith), q.runs (sum c t) (stored o (c.records * rs) b) (rw (length_stored o (c.records * rs) b fits) (omega arith)), sum_assoc, place, stored_append o (c.records * rs) b (omega arith) d);
      }

  -- A step that only counts.
  pub puts_none : (f : Counts → Counts) (t : Counts) → t.records ≡ 0 → ((c : Counts) → f c ≡ sum c t) → Puts (λ c o. fine (f c) o) [] t
  puts_none f t z e = record { whole = rw (z, zero-mul); runs = λ c o h. rw (e c, stored_nil) }

-- A record at place p of the file, and n of them.
module _ (file : List ℕ) (g : Geometry) where
  pub puts_record : (p : ℕ) → p + g.record_size ≤ length file
      → Puts g.record_size (put_record file g p) (part file p g.record_size) (tally 1 0 0 0)
  unfolding put_record
  puts_record p h =
      record {
        whole = rw (length_part file p g.record_size h, one-mul);
        runs = λ c o l. rw (le-leb _ _ l) (simp add-zero);
      }

  pub puts_records : (n p : ℕ) → p + n * g.record_size ≤ length file
      → Puts g.record_size (records_put file g n p) (part file p (n * g.record_size)) (tally n 0 0 0)
  unfolding records_put
  puts_records zero p h = rw zero-mul (puts_none g.record_size (λ c. c) (tally 0 0 0 0) refl (λ c. simp add-zero))
  puts_records (suc n) p h =
      let step = puts_then g.record_size (puts_record p (omega arith)) (puts_records n (p + g.record_size) (omega arith)) in
      let e : g.record_size + n * g.record_size ≡ suc n * g.record_size = omega arith in
      let f : 1 + n ≡ suc n = omega arith in
      rw (part_add, e, f) at step
