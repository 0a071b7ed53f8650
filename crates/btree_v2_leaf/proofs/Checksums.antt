-- A leaf that passes its tests has its checksum; and what document 02, "Five", changes of the test that document 01 has.
use mathlib.Core.Path.{◌≡◌, refl}
use mathlib.Core.Logic.{◌⊎◌, inl, inr}
use mathlib.Core.Bool.{Bool, true, false}
use mathlib.Core.List.{List, [], ◌∷◌}
use Prim.Native.Nat.{ℕ, ◌+◌, ◌-◌, ◌*◌, ◌≤◌, ◌<◌}
use native.Mathlib.Nat.{add-sub_cancel_left}
use native.Mathlib.Omega.{arith}
use lib.Dec.{leb}
use lib.ListN.{length}
use borrow.Author.Tests.{leb-true, leb-false, le-leb, lt-leb, eqb-true}
use Rattle.checksum.specs.Lookup3.{lookup3}
use Rattle.numbers.specs.Numbers.{saturated, part, num}
use Rattle.refusal.specs.Answer.{Answer, accepted, refused, or_else, on_accepted}
use Rattle.format.specs.Bytes.{leaf_signature, records_end}
use Rattle.read_checks.specs.Tests.{needs, front_test, checksum_test}
use Rattle.refusal.proofs.Answers.{test_passed, both_accepted}
use Rattle.read_checks.proofs.Passing.{there}
use Rattle.btree_v2_leaf.specs.Leaf.{leaf_body, leaf_test}

module _ (file : List ℕ) (rs a n : ℕ) where
  abbrev end : ℕ
  end = a + records_end rs n

  -- The four bytes after the records are there, and are the checksum of all before them.
  pub record Summed : Type 0 where
    pub there : a + 10 + n * rs ≤ length file
    pub right : num file (a + records_end rs n) 4 ≡ lookup3 (part file a (records_end rs n))

  pub leaf_summed : (figures : List ℕ) → leaf_test file rs a n ≡ accepted figures → Summed
  unfolding leaf_test leaf_body checksum_test
  leaf_summed figures e =
      let body = (both_accepted e).2 in
      let sum = there (end + 4) (length file) figures _ (there end (length file) figures _ body).1 in
      let computed = lookup3 (part file a (end - a)) in
      let right = eqb-true (num file end 4) computed (test_passed 6 _ sum.1).0 in
      record { there = omega (arith, sum.0); right = rw add-sub_cancel_left at right }

  -- Document 01's test of a leaf: the checksum only where its 4 bytes are there.
  unfoldable pub test_by01 : Answer
  test_by01 =
      on_accepted (front_test file leaf_signature a)
      (needs end (length file)
      (or_else (leb (end + 4) (length file)) (accepted [])
      (checksum_test file a end (accepted []))))

  -- Where these are there, the test is document 01's.
  pub leaf_as_before : a + 10 + n * rs ≤ length file → leaf_test file rs a n ≡ test_by01
  unfolding leaf_test leaf_body test_by01
  leaf_as_before h = rw (le-leb (end + 4) (length file) (omega arith))

  -- A leaf that ends early: document 01's test accepts it, and the file ends before its checksum does.
  pub record EndsEarly : Type 0 where
    pub accepts : test_by01 ≡ accepted []
    pub short : length file < a + 10 + n * rs

  -- It is refused by 1 with the end of those 4 bytes.
  abbrev pub checksum_missing : Answer
  checksum_missing = refused 1 (saturated (a + 10 + n * rs) ∷ length file ∷ [])

  pub ends_early : EndsEarly → leaf_test file rs a n ≡ checksum_missing
  unfolding leaf_test leaf_body test_by01
  ends_early early =
      let front = both_accepted {first = front_test file leaf_signature a} early.accepts in
      let records = (there end (length file) [] _ front.2).0 in
      let ten : end + 4 ≡ a + 10 + n * rs = omega arith in
      rw (front.1, le-leb end (length file) records, lt-leb (end + 4) (length file) (omega (arith, early.short)), ten)

  -- In every other case the test answers as document 01's.
  pub leaf_changed : (leaf_test file rs a n ≡ test_by01) ⊎ EndsEarly
  unfolding leaf_test leaf_body test_by01
  leaf_changed = by (leb (end + 4) (length file)) refl (front_test file leaf_signature a) refl (leb end (length file)) refl
    where
      by : (s : Bool) → leb (end + 4) (length file) ≡ s → (front : Answer) → front_test file leaf_signature a ≡ front → (r : Bool) → leb end (length file) ≡ r
          → (leaf_test file rs a n ≡ test_by01) ⊎ EndsEarly
      by true e front f r h = inl (leaf_as_before (omega (arith, leb-true (end + 4) (length file) e)))
      by false e (refused number values) f r h = inl (rw f)
      by false e (accepted figures) f false h = inl (rw (f, h))
      by false e (accepted figures) f true h = inr (record { accepts = rw (f, h, e); short = omega (arith, leb-false (end + 4) (length file) e) })
