-- Laws of an answer as numbers. (`cc` knows that `accepted` and `refused` differ and give back what they hold.)
use mathlib.Core.Path.{◌≡◌, refl, sym}
use mathlib.Core.Bool.{Bool, true, false}
use Prim.Native.Nat.{◌-◌, ℕ, suc, ◌+◌, ◌≤◌, ◌<◌}
use lib.Dec.{lit<, lit≤}
use Rattle.refusal.specs.Answer.{Answer, accepted, refused, or_else, on_accepted, refusal_of, cells}
use mathlib.Core.List.{List, [], ◌∷◌, ◌++◌, append_assoc}
use native.Mathlib.Nat.{add_comm}
use native.Mathlib.Numerals.{add-one}
use native.Mathlib.Omega.{arith}
use lib.ListN.{length, get_or, take, replicate, length-take, length-append, length-replicate, replicate-append-replicate}
use lib.Seq.{take-append-add, take-append-le, take-take, take_at, take-suc, take_all}
use Rattle.refusal.specs.declared.Refusal.{Refusal}
use Rattle.refusal.specs.declared.Refusal.TheVariants.{UnexpectedEof, InvalidBTreeV2Signature, InvalidBTreeV2Version, InvalidOffsetSize, InvalidLengthSize, ChecksumMismatch, InvalidNodeSize, ZeroRecordSize, TooManyRecords}
use Rattle.refusal.specs.declared.Refusal.TheVariants.{LevelHoldsNone, SubtreeTooThin, RecordBufferLength, CountAboveLengthSize, AddressAboveOffsetSize, OutputTooShort, DepthAboveLimit}
use Rattle.refusal.specs.declared.Refusal.TheVariants.{InvalidKeyField, BaseBeyondFile, UnknownRecordType, RecordTypeMismatch}

-- Where an answer accepts, a test before it held, and so did an answer before it accept.
pub test_passed : {t : Bool} (number : ℕ) (values : List ℕ) {figures : List ℕ} {rest : Answer}
    → or_else t (refused number values) rest ≡ accepted figures → (t ≡ true) × (rest ≡ accepted figures)
test_passed {t = true} number values e = (refl, e)
test_passed {t = false} number values e = (cc, cc)

pub both_accepted : {first next : Answer} {figures : List ℕ} → on_accepted first next ≡ accepted figures
    → (f : List ℕ) × (first ≡ accepted f) × (next ≡ accepted figures)
both_accepted {first = accepted f} e = (f, refl, e)
both_accepted {first = refused number values} e = ([], cc, cc)

-- k numbers are k.
pub length_cells : (k : ℕ) (a : Answer) → length (cells k a) ≡ k
unfolding cells
length_cells k (accepted figures) = simp (length-take, length-append, length-replicate) (omega arith)
length_cells k (refused number values) = simp (length-take, length-append, length-replicate) (omega arith)

-- Where there is room for all, n zeros follow.
next_record : (z : ℕ) (l : List ℕ) (k n : ℕ) → k ≡ length l + n → take k (l ++ replicate k z) ≡ l ++ replicate n z
next_record z l k n e =
    rw (e, take-append-add, add_comm, ← replicate-append-replicate n (length l) z, take_at (replicate n z) (replicate (length l) z) n (length-replicate n z))

pub cells_accepted : (k : ℕ) (figures : List ℕ) (n : ℕ) → k ≡ suc (length figures) + n
    → cells k (accepted figures) ≡ (0 ∷ figures) ++ replicate n 0
unfolding cells
cells_accepted k figures n e = next_record 0 (0 ∷ figures) k n e

-- A zero more behind the numbers changes nothing: behind the figures, or where one number more is asked.
one_more : (k : ℕ) (l : List ℕ) → take k (l ++ replicate (suc k) 0) ≡ take k (l ++ replicate k 0)
one_more k l =
    let zeros : ℕ → List ℕ = λ n. replicate n 0 in
    let long : k ≤ length (l ++ zeros k) = simp (length-append, length-replicate) (omega arith) in
    let turned : zeros (suc k) ≡ zeros k ++ zeros 1 = sym (rw (add-one k) at (replicate-append-replicate {A = ℕ} k 1 0)) in
    rw (turned, ← append_assoc l (zeros k) (zeros 1)) (take-append-le k (l ++ zeros k) (zeros 1) long)

pub cells_zero : (k : ℕ) (figures : List ℕ) → cells k (accepted (figures ++ (0 ∷ []))) ≡ cells k (accepted figures)
unfolding cells
cells_zero k figures = let one : List ℕ = 0 ∷ [] in rw (append_assoc figures one (replicate k 0)) (one_more k (0 ∷ figures))

pub cells_front : (k : ℕ) (a : Answer) → take k (cells (suc k) a) ≡ cells k a
unfolding cells
cells_front k (accepted figures) = let few : k ≤ suc k = omega arith in rw (take-take k (suc k) _ few) (one_more k (0 ∷ figures))
cells_front k (refused number values) = let few : k ≤ suc k = omega arith in rw (take-take k (suc k) _ few) (one_more k (number ∷ values))

-- One number more is the numbers and that one behind them.
pub cells_snoc : (k : ℕ) (a : Answer) → cells k a ++ (get_or (cells (suc k) a) k 0 ∷ []) ≡ cells (suc k) a
cells_snoc k a =
    let long : length (cells (suc k) a) ≡ suc k = length_cells (suc k) a in
    rw (← cells_front k a, ← take-suc (cells (suc k) a) k 0 (omega arith), take_all (suc k) (cells (suc k) a) (omega arith))

pub cells_refused : (k number : ℕ) (values : List ℕ) (n : ℕ) → k ≡ suc (length values) + n
    → cells k (refused number values) ≡ (number ∷ values) ++ replicate n 0
unfolding cells
cells_refused k number values n e = next_record 0 (number ∷ values) k n e

-- No cause has more than two values, so what `told` tells is all of it: m cells more are zeros.
more : (m number : ℕ) (values : List ℕ) → length values ≤ 2
    → cells (m + 3) (refused number values) ≡ cells 3 (refused number values) ++ replicate m 0
more m number values h =
    rw (cells_refused (m + 3) number values (2 - length values + m) (omega arith), cells_refused 3 number values (2 - length values) (omega arith), append_assoc, replicate-append-replicate)

-- A cause is always a refusal, has two values at most, and a number above 0.
pub refused_is : (r : Refusal) → (n : ℕ) × (v : List ℕ) × (refusal_of r ≡ refused n v) × (length v ≤ 2) × (0 < n)
refused_is (UnexpectedEof expected available) = (_, _, refl, lit≤ tt, lit< tt)
refused_is InvalidBTreeV2Signature = (_, _, refl, lit≤ tt, lit< tt)
refused_is (InvalidBTreeV2Version version) = (_, _, refl, lit≤ tt, lit< tt)
refused_is (InvalidOffsetSize size) = (_, _, refl, lit≤ tt, lit< tt)
refused_is (InvalidLengthSize size) = (_, _, refl, lit≤ tt, lit< tt)
refused_is (ChecksumMismatch expected computed) = (_, _, refl, lit≤ tt, lit< tt)
refused_is (InvalidNodeSize size) = (_, _, refl, lit≤ tt, lit< tt)
refused_is ZeroRecordSize = (_, _, refl, lit≤ tt, lit< tt)
refused_is (TooManyRecords records) = (_, _, refl, lit≤ tt, lit< tt)
refused_is (LevelHoldsNone level) = (_, _, refl, lit≤ tt, lit< tt)
refused_is SubtreeTooThin = (_, _, refl, lit≤ tt, lit< tt)
refused_is (RecordBufferLength size) = (_, _, refl, lit≤ tt, lit< tt)
refused_is (CountAboveLengthSize records) = (_, _, refl, lit≤ tt, lit< tt)
refused_is (AddressAboveOffsetSize start) = (_, _, refl, lit≤ tt, lit< tt)
refused_is (OutputTooShort size) = (_, _, refl, lit≤ tt, lit< tt)
refused_is (DepthAboveLimit depth) = (_, _, refl, lit≤ tt, lit< tt)
refused_is InvalidKeyField = (_, _, refl, lit≤ tt, lit< tt)
refused_is BaseBeyondFile = (_, _, refl, lit≤ tt, lit< tt)
refused_is UnknownRecordType = (_, _, refl, lit≤ tt, lit< tt)
refused_is RecordTypeMismatch = (_, _, refl, lit≤ tt, lit< tt)

pub cells_more : (r : Refusal) (m : ℕ) → cells (m + 3) (refusal_of r) ≡ cells 3 (refusal_of r) ++ replicate m 0
cells_more r m = let s = refused_is r in rw s.2 (more m s.0 s.1 s.3)

-- A cause of no value, of one and of two, and an accepted test, as three numbers.
pub told_alone : (number : ℕ) → number ∷ 0 ∷ 0 ∷ [] ≡ cells 3 (refused number [])
unfolding cells
told_alone number = refl

pub told_one : (number value : ℕ) → number ∷ value ∷ 0 ∷ [] ≡ cells 3 (refused number (value ∷ []))
unfolding cells
told_one number value = refl

pub told_two : (number first second : ℕ) → number ∷ first ∷ second ∷ [] ≡ cells 3 (refused number (first ∷ second ∷ []))
unfolding cells
told_two number first second = refl

pub told_accepted : 0 ∷ 0 ∷ 0 ∷ [] ≡ cells 3 (accepted [])
unfolding cells
told_accepted = refl
