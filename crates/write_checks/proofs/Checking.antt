-- A plan that is made, and then the tests of the lengths: what `check` makes of them.
use mathlib.Core.Path.{◌≡◌, refl, sym, ◌∙◌}
use mathlib.Core.Bool.{Bool, true, false}
use mathlib.Core.List.{List, []}
use Prim.Native.Nat.{ℕ, ◌+◌, ◌-◌, ◌*◌, ◌%◌, ◌^◌, ◌≤◌, ◌<◌}
use native.Mathlib.Nat.{one-mul, mod-eq_of_lt}
use native.Mathlib.Omega.{arith}
use lib.Dec.{leb, eqb}
use lib.Pow.{pow-lt, pow_mono}
use Rattle.numbers.specs.Numbers.{field_size}
use Rattle.numbers.proofs.Numbers.{field_size_le}
use Rattle.refusal.specs.declared.Refusal.{Refusal}
use Rattle.refusal.specs.Answer.{Answer, accepted, refused, refusal_of, or_else}
use Rattle.refusal.proofs.Answers.{refused_is}
use Rattle.node_info.specs.declared.Geometry.{Geometry}
use Rattle.plan.specs.declared.BTreeV2Plan.{BTreeV2Plan}
use Rattle.plan.specs.Planned.{plan_figures, plan_answer, plan_numbers}
use Rattle.plan.proofs.Checks.{Plannable, accepted_plannable}
use Rattle.format.specs.Bytes.{header_size}
use Rattle.format.specs.declared.Request.{Request}
use Rattle.format.specs.Request.{nodes_of}
use Rattle.write_checks.specs.Writing.{write_answer}
use Rattle.write_checks.specs.declared.Lengths.{Lengths}
use Rattle.write_checks.specs.Tests.{length_answer}

-- `largest`: a power that fits 64 bits, and one that does not.
pub power_low : (k : ℕ) → k < 64 → 1 * 2 ^ k % 2 ^ 64 ≡ 2 ^ k
power_low k h = rw one-mul (mod-eq_of_lt (pow-lt h))

pub power_high : (k : ℕ) → 64 ≤ k → 2 ^ 64 ≤ 2 ^ k
power_high k h = pow_mono h

-- That of a field's size fits.
pub power_fits : (s : ℕ) → field_size s ≡ true → 2 ^ (8 * s) ≤ 2 ^ 64
power_fits s e =
    let few = field_size_le s e in pow_mono {i = 8 * s} {j = 64} (omega arith)

-- Two chains of the same tests, the one ending in nothing, the other in `last`.
record Alike (last x y : Answer) : Type 0 where
  pub passed : accepted [] ≡ x → last ≡ y
  pub stopped : (n : ℕ) (v : List ℕ) → refused n v ≡ x → refused n v ≡ y

alike_end : (last : Answer) → Alike last (accepted []) last
alike_end last = record { passed = λ e. refl; stopped = λ n v e. cc }

alike_step : (last x y : Answer) (t : Bool) (n : ℕ) (v : List ℕ) → Alike last x y → Alike last (or_else t (refused n v) x) (or_else t (refused n v) y)
alike_step last x y true n v a = a
alike_step last x y false n v a = record { passed = λ e. cc; stopped = λ m w e. e }

alike_tests : (last : Answer) (r c s h i : Bool) (rv cv sv hv iv : List ℕ) → Alike last
    (or_else r (refused 12 rv) (or_else c (refused 13 cv) (or_else s (refused 14 sv) (or_else h (refused 15 hv) (or_else i (refused 15 iv) (accepted []))))))
    (or_else r (refused 12 rv) (or_else c (refused 13 cv) (or_else s (refused 14 sv) (or_else h (refused 15 hv) (or_else i (refused 15 iv) last)))))
alike_tests last r c s h i rv cv sv hv iv =
    alike_step last _ _ r 12 rv
    (alike_step last _ _ c 13 cv
    (alike_step last _ _ s 14 sv (alike_step last _ _ h 15 hv (alike_step last (accepted []) last i 15 iv (alike_end last)))))

-- What a plan that was made says of its numbers.
known : (n : ℕ) (g : Geometry) (p : BTreeV2Plan) → accepted (plan_numbers p) ≡ plan_answer n g → Plannable n g × (plan_numbers p ≡ plan_figures n g)
known n g p made = accepted_plannable n g (plan_numbers p) (sym made)

pub records_few : (n : ℕ) (g : Geometry) (p : BTreeV2Plan) → accepted (plan_numbers p) ≡ plan_answer n g → n < 2 ^ 24
records_few n g p made = omega (arith, (known n g p made).0.pass)

-- The sizes are of fields and the plan is made, so the lengths decide.
module _ (q : Request) (l : Lengths) (offset : true ≡ field_size q.geometry.offset_size) (length : true ≡ field_size q.length_size)
    (p : BTreeV2Plan) (made : accepted (plan_numbers p) ≡ plan_answer q.record_count q.geometry) where
  image_is : p.image_size ≡ nodes_of q * q.geometry.node_size
  unfolding plan_figures nodes_of
  image_is = let figures = (known q.record_count q.geometry p made).1 in cc

  alike : Alike (accepted (plan_numbers p)) (length_answer q p.image_size l) (write_answer q l.records l.header l.image)
  unfolding write_answer length_answer
  alike =
      rw (← offset, ← length, ← made, image_is)
      (alike_tests _
      (eqb l.records (q.record_count * q.geometry.record_size))
      (leb q.record_count (2 ^ (8 * q.length_size) - 1))
      (leb (q.start + nodes_of q * q.geometry.node_size) (2 ^ (8 * q.geometry.offset_size) - 1))
      (leb (header_size q.geometry.offset_size q.length_size) l.header)
      (leb (nodes_of q * q.geometry.node_size) l.image)
      _ _ _ _ _)

  pub checked_passed : accepted [] ≡ length_answer q p.image_size l → accepted (plan_numbers p) ≡ write_answer q l.records l.header l.image
  checked_passed = alike.passed

  pub checked_lengths : (cause : Refusal) → refusal_of cause ≡ length_answer q p.image_size l → refusal_of cause ≡ write_answer q l.records l.header l.image
  checked_lengths cause e =
      let refusal = refused_is cause in rw refusal.2 (alike.stopped refusal.0 refusal.1 (sym refusal.2 ∙ e))
