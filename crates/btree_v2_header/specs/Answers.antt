-- What the header reader's answer says, in the terms of the format's definitions.
use Rattle.std.specs.Prelude.{◌≡◌, List, [], ◌∷◌, ◌++◌, ℕ, drop, Result, Ok}
use Rattle.refusal.specs.Answer.{Answer, answer_of}
use Rattle.btree_v2_header.specs.Header.{header_figures, header_at, with_base, parsed_at}
use Rattle.btree_v2_header.specs.declared.BTreeV2Header.{BTreeV2Header}
use Rattle.refusal.specs.declared.Refusal.{Refusal}

-- A header's figures and its base, or the refusal.
abbrev pub header_answer_of : Result BTreeV2Header Refusal → Answer
header_answer_of = answer_of (λ h. header_figures h ++ (h.base ∷ []))

-- r answers the reading of the header at o of the part from the base on, and a header that it gives is the one there, with that base.
pub record Parses (file : List ℕ) (base o ow lw : ℕ) (r : Result BTreeV2Header Refusal) : Type 0 where
  pub answer : header_answer_of r ≡ parsed_at file base o ow lw
  pub fields : (h : BTreeV2Header) → r ≡ Ok h → h ≡ with_base base (header_at (drop base file) o ow lw)
