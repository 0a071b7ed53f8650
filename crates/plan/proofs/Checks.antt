-- The planner's refusals 10 and 11, in the forms in which the code meets them, and what an accepted plan has passed.
use mathlib.Core.Path.{◌≡◌, sym}
use mathlib.Core.Bool.{Bool, true, false, not, ◌||◌}
use mathlib.Core.List.{List, [], ◌∷◌}
use Prim.Native.Nat.{ℕ, suc, ◌≤◌, ◌<◌}
use native.Mathlib.Omega.{arith}
use lib.Dec.{leb, eqb}
use borrow.Author.Tests.{leb-true, ltb-true, not-true, lt-ltb, le-leb, ne_eqb}
use Rattle.std.proofs.lemmas.Bool.{and_parts}
use Rattle.refusal.specs.Answer.{accepted, refused, or_else}
use Rattle.refusal.proofs.Answers.{test_passed}
use Rattle.node_info.specs.Capacity.{subtree_capacity, node_capacity}
use Rattle.plan.specs.Steps.{Passed}
use Rattle.plan.specs.Planned.{thin, plan_depth, empty_level, plan_figures, plan_answer}
use Rattle.plan.proofs.Depths.{holding, depth_holds, depth_le_23, depth_holds_all}
use Rattle.node_info.specs.declared.Geometry.{Geometry}

module _ (n : ℕ) (g : Geometry) where
  module _ (pass : Passed n g) where
    -- What is left of the tests.
    passed_9 : plan_answer n g
        ≡ or_else (holding n g) (refused 10 (empty_level n g ∷ []))
        (or_else (eqb n 0 || not (thin (subtree_capacity g) (plan_depth n g) n)) (refused 11 []) (accepted (plan_figures n g)))
    unfolding plan_answer
    passed_9 =
        rw (pass.offset, le-leb 10 g.node_size pass.low, le-leb g.node_size 65536 pass.high, lt-ltb 0 g.record_size pass.some, le-leb n 16777215 pass.few)

    pub checks_10 : holding n g ≡ false → plan_answer n g ≡ refused 10 (empty_level n g ∷ [])
    checks_10 e = rw (passed_9, e)

    module _ (test : holding n g ≡ true) where
      pub checks_11 : (eqb n 0 || not (thin (subtree_capacity g) (plan_depth n g) n)) ≡ false
          → plan_answer n g ≡ refused 11 []
      checks_11 e = rw (passed_9, test, e)

      pub checks_passed : (eqb n 0 || not (thin (subtree_capacity g) (plan_depth n g) n)) ≡ true
          → plan_answer n g ≡ accepted (plan_figures n g)
      checks_passed e = rw (passed_9, test, e)

-- What an accepted plan has passed.
pub record Plannable (n : ℕ) (g : Geometry) : Type 0 where
  pub pass : Passed n g
  pub holds : (u : ℕ) → u < plan_depth n g → 0 < node_capacity g (suc u)
  pub deep : plan_depth n g ≤ 23
  pub enough : n ≤ subtree_capacity g (plan_depth n g)
  pub thick : 0 < n → thin (subtree_capacity g) (plan_depth n g) n ≡ false

not_thin : (n : ℕ) (t : Bool) → (eqb n 0 || not t) ≡ true → 0 < n → t ≡ false
not_thin n t e h = not-true t (rw (ne_eqb n 0 (omega arith)) at e)

module _ (n : ℕ) (g : Geometry) where
  pub accepted_plannable : (figures : List ℕ) → plan_answer n g ≡ accepted figures
      → Plannable n g × (figures ≡ plan_figures n g)
  unfolding plan_answer
  accepted_plannable figures e =
      let p4 = test_passed 4 _ e in
      let p7 = test_passed 7 _ p4.1 in
      let p8 = test_passed 8 _ p7.1 in
      let p9 = test_passed 9 _ p8.1 in
      let p10 = test_passed 10 _ p9.1 in
      let p11 = test_passed 11 _ p10.1 in
      let sizes = and_parts (leb 10 g.node_size) (leb g.node_size 65536) p7.0 in
      let same : accepted figures ≡ accepted (plan_figures n g) = sym p11.1 in
      let pass : Passed n g =
      record {
        offset = p4.0;
        low = leb-true 10 g.node_size sizes.0;
        high = leb-true g.node_size 65536 sizes.1;
        some = ltb-true 0 g.record_size p8.0;
        few = leb-true n 16777215 p9.0;
      } in (
        record {
          pass = pass;
          holds = depth_holds n g pass p10.0;
          deep = depth_le_23 n g pass p10.0;
          enough = depth_holds_all n g pass p10.0;
          thick = not_thin n (thin (subtree_capacity g) (plan_depth n g) n) p11.0;
        },
        cc,
      )
