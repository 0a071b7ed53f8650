-- The writing call: what it answers and leaves, in the terms of the format's definitions.
use Rattle.std.specs.Prelude.{◌≡◌, List, ℕ}
use Rattle.refusal.specs.Answer.{Answer, accepted}
use Rattle.node_info.specs.Table.{info_at}
use Rattle.plan.specs.declared.PlanAndTable.{PlanAndTable}
use Rattle.plan.specs.Planned.{plan_numbers}
use Rattle.format.specs.declared.Request.{Request}
use Rattle.format.specs.Request.{depth_of}
use Rattle.write_checks.specs.Writing.{written, header_exit, image_exit}

-- The answer and both outputs at exit are the defined ones.
pub record Wrote (q : Request) (recs header image : List ℕ) (answer : Answer) (header_last image_last : List ℕ) : Type 0 where
  pub answered : answer ≡ written q recs header image
  pub header_left : header_last ≡ header_exit q recs header image
  pub image_left : image_last ≡ image_exit q recs header image

-- The same of the outputs alone.
pub record Outputs (q : Request) (recs header image header_last image_last : List ℕ) : Type 0 where
  pub header_left : header_last ≡ header_exit q recs header image
  pub image_left : image_last ≡ image_exit q recs header image

-- An accepted write: its plan's figures and table.
pub record Accepted (q : Request) (planned : PlanAndTable) (recs header image : List ℕ) : Type 0 where
  pub figures : written q recs header image ≡ accepted (plan_numbers planned.plan)
  pub table : planned.info ≡ info_at q.geometry (depth_of q)
