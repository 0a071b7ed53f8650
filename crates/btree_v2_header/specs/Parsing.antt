-- The header reader's own steps: what is read of the part from the base on, and what holds of a header once tests have passed.
use Rattle.std.specs.Prelude.{◌≡◌, true, List, ℕ, ◌+◌, ◌≤◌, length, Result, Ok}
use Rattle.numbers.specs.Numbers.{part, num, field_size}
use Rattle.refusal.specs.Answer.{accepted}
use Rattle.format.specs.Bytes.{header_signature}
use Rattle.read_checks.specs.Tests.{same}
use Rattle.btree_v2_header.specs.Header.{header_figures, header_at, with_base, carrying, parsed}
use Rattle.btree_v2_header.specs.Answers.{header_answer_of}
use Rattle.btree_v2_header.specs.declared.BTreeV2Header.{BTreeV2Header}
use Rattle.refusal.specs.declared.Refusal.{Refusal}

-- r answers the reading of the header at o of `file`, the part of a file from the base on, and carries the base.
pub record ParsesPart (file : List ℕ) (base o ow lw : ℕ) (r : Result BTreeV2Header Refusal) : Type 0 where
  pub answer : header_answer_of r ≡ carrying base (parsed file o ow lw)
  pub fields : (h : BTreeV2Header) → r ≡ Ok h → h ≡ with_base base (header_at file o ow lw)

-- Where the tests up to that of the offset size have passed.
pub record Begun (file : List ℕ) (o ow : ℕ) : Type 0 where
  pub there : o + 16 ≤ length file
  pub signature : same (part file o 4) header_signature ≡ true
  pub version : num file (o + 4) 1 ≡ 0
  pub size : field_size ow ≡ true

-- Where all have: the fields are there, offsets and lengths have one of the sizes, and the header is accepted.
pub record FieldsThere (file : List ℕ) (o ow lw : ℕ) : Type 0 where
  pub there : o + 18 + ow + lw ≤ length file
  pub offsets : field_size ow ≡ true
  pub lengths : field_size lw ≡ true
  pub answer : parsed file o ow lw ≡ accepted (header_figures (header_at file o ow lw))
