-- An answer in document 01's terms, and the number and values that it gives to each cause ("Causes and numbers"); 17 to 20 are document 02's.
use Rattle.std.specs.Prelude.{ℕ, List, [], ◌∷◌, ◌++◌, Bool, true, false, take, replicate, Result, Ok, Err, ⊤}
use Rattle.refusal.specs.declared.Refusal.{Refusal}
use Rattle.refusal.specs.declared.Refusal.TheVariants.{UnexpectedEof, InvalidBTreeV2Signature, InvalidBTreeV2Version, InvalidOffsetSize, InvalidLengthSize, ChecksumMismatch, InvalidNodeSize, ZeroRecordSize, TooManyRecords}
use Rattle.refusal.specs.declared.Refusal.TheVariants.{LevelHoldsNone, SubtreeTooThin, RecordBufferLength, CountAboveLengthSize, AddressAboveOffsetSize, OutputTooShort, DepthAboveLimit}
use Rattle.refusal.specs.declared.Refusal.TheVariants.{InvalidKeyField, BaseBeyondFile, UnknownRecordType, RecordTypeMismatch}

-- Accepted with the figures that the call gives, or refused by a number with its values.
pub data Answer : Type 0 where
  accepted : List ℕ → Answer
  refused : ℕ → List ℕ → Answer

-- The rest where a test holds, else a refusal.
abbrev pub or_else : {A : Type 0} → Bool → A → A → A
or_else true refusal rest = rest
or_else false refusal rest = refusal

-- The number and values of each cause.
abbrev pub refusal_of : Refusal → Answer
refusal_of (UnexpectedEof expected available) = refused 1 (expected ∷ available ∷ [])
refusal_of InvalidBTreeV2Signature = refused 2 []
refusal_of (InvalidBTreeV2Version version) = refused 3 (version ∷ [])
refusal_of (InvalidOffsetSize size) = refused 4 (size ∷ [])
refusal_of (InvalidLengthSize size) = refused 5 (size ∷ [])
refusal_of (ChecksumMismatch expected computed) = refused 6 (expected ∷ computed ∷ [])
refusal_of (InvalidNodeSize size) = refused 7 (size ∷ [])
refusal_of ZeroRecordSize = refused 8 []
refusal_of (TooManyRecords count) = refused 9 (count ∷ [])
refusal_of (LevelHoldsNone level) = refused 10 (level ∷ [])
refusal_of SubtreeTooThin = refused 11 []
refusal_of (RecordBufferLength length) = refused 12 (length ∷ [])
refusal_of (CountAboveLengthSize count) = refused 13 (count ∷ [])
refusal_of (AddressAboveOffsetSize start) = refused 14 (start ∷ [])
refusal_of (OutputTooShort length) = refused 15 (length ∷ [])
refusal_of (DepthAboveLimit depth) = refused 16 (depth ∷ [])
refusal_of InvalidKeyField = refused 17 []
refusal_of BaseBeyondFile = refused 18 []
refusal_of UnknownRecordType = refused 19 []
refusal_of RecordTypeMismatch = refused 20 []

-- What a call says: the figures of what it gives, or its refusal.
abbrev pub answer_of : {A : Type 0} → (A → List ℕ) → Result A Refusal → Answer
answer_of figures (Ok given) = accepted (figures given)
answer_of figures (Err cause) = refusal_of cause

-- What a test says.
abbrev pub verdict_of : Result ⊤ Refusal → Answer
verdict_of = answer_of (λ _. [])

-- What a call says that puts bytes out: their length.
abbrev pub put_answer_of : Result ℕ Refusal → Answer
put_answer_of = answer_of (λ length. length ∷ [])

-- An answer as k numbers: the refusal's number (0 where accepted), the figures or values, and zeros.
unfoldable pub cells : ℕ → Answer → List ℕ
cells k (accepted figures) = take k ((0 ∷ figures) ++ replicate k 0)
cells k (refused number values) = take k ((number ∷ values) ++ replicate k 0)

-- What goes on where an answer accepts.
abbrev pub on_accepted : Answer → Answer → Answer
on_accepted (accepted figures) next = next
on_accepted (refused number values) next = refused number values

-- One of two lists by an answer: of a buffer what was written where the answer accepts, else as it was.
abbrev pub if_accepted : Answer → List ℕ → List ℕ → List ℕ
if_accepted (accepted figures) written entry = written
if_accepted (refused number values) written entry = entry
