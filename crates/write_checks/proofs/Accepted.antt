-- What an accepted write says of its numbers.
use mathlib.Core.Path.{◌≡◌}
use mathlib.Core.Bool.{true}
use mathlib.Core.List.{List}
use Prim.Native.Nat.{ℕ, ◌+◌, ◌-◌, ◌*◌, ◌^◌, ◌≤◌, ◌<◌}
use native.Mathlib.Nat.{one-le-pow}
use native.Mathlib.Omega.{arith}
use lib.Dec.{lit<}
use lib.ListN.{length}
use borrow.Author.Tests.{leb-true, eqb-true}
use Rattle.numbers.specs.Numbers.{field_size}
use Rattle.numbers.proofs.Numbers.{pow_256}
use Rattle.refusal.specs.Answer.{accepted}
use Rattle.refusal.proofs.Answers.{test_passed, both_accepted}
use Rattle.plan.specs.Tree.{nodes}
use Rattle.plan.specs.Planned.{plan_answer}
use Rattle.format.specs.Bytes.{address}
use Rattle.format.specs.Bytes.{header_size}
use Rattle.format.specs.declared.Request.{Request}
use Rattle.format.specs.Request.{nodes_of, root_of}
use Rattle.write_checks.specs.Writing.{write_answer, written}

-- The refusals that have not come: 4, 5, the plan's, 12, 13 and 14.
pub record Accepts (q : Request) (recs : List ℕ) : Type 0 where
  pub figures : List ℕ
  pub offset : field_size q.geometry.offset_size ≡ true
  pub lengths : field_size q.length_size ≡ true
  pub plan : plan_answer q.record_count q.geometry ≡ accepted figures
  pub records : length recs ≡ q.record_count * q.geometry.record_size
  pub count : q.record_count ≤ 2 ^ (8 * q.length_size) - 1
  pub end : q.start + nodes_of q * q.geometry.node_size ≤ 2 ^ (8 * q.geometry.offset_size) - 1

-- And the two outputs are long enough.
pub record Roomy (q : Request) (hdr img : List ℕ) : Type 0 where
  pub header : header_size q.geometry.offset_size q.length_size ≤ length hdr
  pub image : nodes_of q * q.geometry.node_size ≤ length img

passes : (q : Request) (recs hdr img figures : List ℕ) → written q recs hdr img ≡ accepted figures
    → Accepts q recs × Roomy q hdr img × (plan_answer q.record_count q.geometry ≡ accepted figures)
unfolding written write_answer
passes q recs hdr img figures e =
    let a = test_passed 4 _ e in
    let b = test_passed 5 _ a.1 in
    let p = both_accepted b.1 in
    let r = test_passed 12 _ p.2 in
    let c = test_passed 13 _ r.1 in
    let x = test_passed 14 _ c.1 in
    let h = test_passed 15 _ x.1 in
    let i = test_passed 15 _ h.1 in (
      record {
        figures = p.0;
        offset = a.0;
        lengths = b.0;
        plan = p.1;
        records = eqb-true _ _ r.0;
        count = leb-true _ _ c.0;
        end = leb-true _ _ x.0;
      },
      record { header = leb-true _ _ h.0; image = leb-true _ _ i.0 },
      i.1,
    )

pub accepts : (q : Request) (recs hdr img figures : List ℕ) → written q recs hdr img ≡ accepted figures → Accepts q recs
accepts q recs hdr img figures e = (passes q recs hdr img figures e).0

pub roomy : (q : Request) (recs hdr img figures : List ℕ) → written q recs hdr img ≡ accepted figures → Roomy q hdr img
roomy q recs hdr img figures e = (passes q recs hdr img figures e).1

-- Its figures are the plan's.
pub plan_accepted : (q : Request) (recs hdr img figures : List ℕ) → written q recs hdr img ≡ accepted figures
    → plan_answer q.record_count q.geometry ≡ accepted figures
plan_accepted q recs hdr img figures e = (passes q recs hdr img figures e).2

-- A number up to 2^(8 w) - 1 fits w bytes.
fits_field : (w x : ℕ) → x ≤ 2 ^ (8 * w) - 1 → x < 256 ^ w
fits_field w x h = rw pow_256 (omega (arith, one-le-pow (8 * w) 2 (lit< tt)))

-- So the record count fits the length size, and the root's address the offset size.
module _ (q : Request) (recs : List ℕ) (a : Accepts q recs) where
  pub count_fits : q.record_count < 256 ^ q.length_size
  count_fits = fits_field q.length_size q.record_count a.count

  pub root_fits : root_of q < 256 ^ q.geometry.offset_size
  unfolding root_of address nodes_of nodes
  root_fits = fits_field q.geometry.offset_size _ (omega (arith, a.end))
