-- What the writing call's numbers and the lengths of the lent buffers decide.
use Rattle.std.specs.Prelude.{ℕ, ◌+◌, ◌-◌, ◌*◌, ◌^◌, ◌≡◌, [], ◌∷◌, leb, eqb, Result, IfOk}
use Rattle.refusal.specs.Answer.{Answer, accepted, refused, or_else}
use Rattle.node_info.specs.Table.{info_at}
use Rattle.plan.specs.Planned.{laid_answer_of}
use Rattle.plan.specs.declared.PlanAndTable.{PlanAndTable}
use Rattle.refusal.specs.declared.Refusal.{Refusal}
use Rattle.format.specs.declared.Request.{Request}
use Rattle.format.specs.Bytes.{header_size}
use Rattle.format.specs.Request.{depth_of}
use Rattle.write_checks.specs.Writing.{write_answer}
use Rattle.write_checks.specs.declared.Lengths.{Lengths}

-- Refusals 12 to 15, in this order, for an image of these bytes.
unfoldable pub length_answer : Request → ℕ → Lengths → Answer
length_answer q image l =
    or_else (eqb l.records (q.record_count * q.geometry.record_size)) (refused 12 (l.records ∷ []))
    (or_else (leb q.record_count (2 ^ (8 * q.length_size) - 1)) (refused 13 (q.record_count ∷ []))
    (or_else (leb (q.start + image) (2 ^ (8 * q.geometry.offset_size) - 1)) (refused 14 (q.start ∷ []))
    (or_else (leb (header_size q.geometry.offset_size q.length_size) l.header) (refused 15 (l.header ∷ []))
    (or_else (leb image l.image) (refused 15 (l.image ∷ [])) (accepted [])))))

-- What the numbers and the lengths decide: the answer, and the table of an accepted plan.
pub record Checked (q : Request) (l : Lengths) (checked : Result PlanAndTable Refusal) : Type 0 where
  pub answered : laid_answer_of checked ≡ write_answer q l.records l.header l.image
  pub table : IfOk checked (λ laid. laid.info ≡ info_at q.geometry (depth_of q))
