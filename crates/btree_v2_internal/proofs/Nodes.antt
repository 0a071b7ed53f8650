-- The tests of an internal node: what a node that passes them has, and how they answer; and the child that a pointer leads to.
use mathlib.Core.Path.{◌≡◌, refl, sym, ap, ◌∙◌}
use mathlib.Core.List.{List, [], ◌∷◌}
use Prim.Native.Nat.{ℕ, ◌+◌, ◌-◌, ◌*◌, ◌%◌, ◌^◌, ◌≤◌, ◌<◌, zero, suc, min}
use native.Mathlib.Nat.{min-eq_left}
use native.Mathlib.Omega.{arith}
use mathlib.Core.Bool.{true}
use lib.Dec.{leb}
use lib.ListN.{length, get_or, take, drop}
use lib.Seq.{get_or-drop}
use Rattle.numbers.specs.Numbers.{unle, num, saturated, field_size}
use Rattle.numbers.proofs.Copying.{num_saturated}
use Rattle.numbers.proofs.Numbers.{saturated_add}
use Rattle.node_info.specs.Table.{pointer_size}
use Rattle.refusal.specs.Answer.{accepted}
use Rattle.format.specs.Bytes.{internal_signature, records_end}
use Rattle.btree_v2_internal.specs.Internal.{pointer_place, child_address, child_records, internal_body, internal_test}
use Rattle.read_checks.specs.Tests.{front_test}
use Rattle.refusal.proofs.Answers.{test_passed, both_accepted}
use Rattle.read_checks.proofs.Passing.{there, front_there}
use Rattle.read_checks.proofs.Plain.{Plain, accepts, refuses, plain_or, plain_on, front_plain}
use Rattle.btree_v2_internal.specs.declared.Internal.{Internal}
use Rattle.btree_v2_internal.specs.Pointers.{pointer_at, address_at, records_at}

-- A number's first two bytes hold it modulo 65,536.
num_mod_bytes : (w : ℕ) (l : List ℕ) → ((i : ℕ) → get_or l i 0 < 256) → unle (take w l) % 65536 ≡ unle (take (min w 2) l)
unfolding unle
num_mod_bytes zero l h = refl
num_mod_bytes (suc zero) [] h = refl
num_mod_bytes (suc zero) (x ∷ l) h = omega (arith, h 0)
num_mod_bytes (suc (suc w)) l h = let two : min (suc (suc w)) 2 ≡ 2 = omega arith in rw two (first_two l h)
  where
    first_two : (l : List ℕ) → ((i : ℕ) → get_or l i 0 < 256) → unle (take (suc (suc w)) l) % 65536 ≡ unle (take 2 l)
    first_two [] h = refl
    first_two (x ∷ []) h = omega (arith, h 0)
    first_two (x ∷ (y ∷ l)) h = omega (arith, h 0, h 1)

num_mod : (l : List ℕ) (p w : ℕ) → ((i : ℕ) → get_or l i 0 < 256) → num l p w % 65536 ≡ num l p (min w 2)
unfolding num
num_mod l p w h = num_mod_bytes w (drop p l) (λ i. rw get_or-drop (h (p + i)))

module _ (file : List ℕ) (rs ow w a n : ℕ) where
  -- What an internal node that passes has: its first 6 bytes, its records, and offsets of one of the sizes.
  pub internal_there : internal_test file rs ow w a n ≡ accepted []
      → (a + 6 ≤ length file) × (6 + n * rs ≤ length file - a) × (field_size ow ≡ true)
  unfolding internal_test internal_body
  internal_there passes =
      let both = both_accepted passes in
      let records = there (6 + n * rs) (length file - a) [] _ both.2 in
      let pointers = there (6 + n * rs + (n + 1) * w) (length file - a) [] _ records.1 in
      (front_there file internal_signature a _ both.1, records.0, (test_passed 4 _ pointers.1).0)

  -- How its tests answer.
  pub internal_plain : Plain (internal_test file rs ow w a n)
  unfolding internal_test internal_body
  internal_plain =
      plain_on (front_test file internal_signature a) (front_plain file internal_signature a)
      (plain_or (leb (records_end rs n) (length file - a)) (refuses 1 (omega arith))
      (plain_or (leb (records_end rs n + (n + 1) * w) (length file - a)) (refuses 1 (omega arith))
      (plain_or (field_size ow) (refuses 4 (omega arith)) accepts)))

-- `child`: the fields of pointer i, where its place is computed from the ends of the records and of the pointers before it.
module _ (file : List ℕ) (x : Internal) (i records before at : ℕ) (small : length file < 2 ^ 64)
    (behind : records ≡ records_end x.record_size x.node.records) (each : before ≡ i * pointer_size x.pointer)
    (begins : at ≡ saturated (x.node.address + (records + before))) where
  place : x.node.address + (records + before) ≡ pointer_at file x i
  unfolding pointer_at pointer_place
  place = rw (behind, each) (omega arith)

  pub address_is : (a : ℕ) → a ≡ num file at (min x.pointer.offset_size 8) → a ≡ address_at file x i
  unfolding address_at child_address
  address_is a e = rw (e, begins, num_saturated _ _ _ small, place)

  pub records_is : ((j : ℕ) → get_or file j 0 < 256) → (next size n : ℕ) → n ≡ num file next (min size 8) → size ≡ min x.pointer.count_size 2
      → next ≡ saturated (at + x.pointer.offset_size) → n ≡ records_at file x i
  unfolding records_at child_records
  records_is bytes next size n e two after =
      e ∙ ap (λ w. num file next w) (size_is size two) ∙ sym (num_mod file next (min x.pointer.count_size 8) bytes)
      ∙ rw (after, begins, saturated_add, num_saturated _ _ _ small, place)
    where
      size_is : (s : ℕ) → s ≡ min x.pointer.count_size 2 → min s 8 ≡ min (min x.pointer.count_size 8) 2
      size_is s h = omega (arith, h)

-- Where no field of a pointer has more than 8 bytes, `address_at` and `records_at` are the address and the count of a walk.
module _ (file : List ℕ) (x : Internal) (i : ℕ) where
  pub fields_walked : x.pointer.offset_size ≤ 8 → x.pointer.count_size ≤ 8
      → (address_at file x i ≡ child_address file x.pointer.offset_size (pointer_at file x i))
      × (records_at file x i ≡ child_records file x.pointer.offset_size x.pointer.count_size (pointer_at file x i))
  unfolding address_at records_at
  fields_walked address count = (rw (min-eq_left address), rw (min-eq_left count))
