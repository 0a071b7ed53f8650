-- The ways out of `lay_out`, in the forms in which the code has them.
use mathlib.Core.Path.{◌≡◌, refl, sym, ap, ◌∙◌}
use mathlib.Core.Bool.{Bool, true, false, not, ◌||◌, ◌&&◌}
use mathlib.Core.List.{[]}
use Prim.Native.Nat.{ℕ, ◌+◌, ◌-◌, ◌*◌, ◌^◌, ◌≤◌, ◌<◌}
use native.Mathlib.Nat.{mul-le-mul}
use native.Mathlib.Omega.{arith}
use lib.Dec.{ltb, eqb}
use borrow.Author.Tests.{not-true, ne_eqb}
use mir.Syntax.{w64}
use mir.Val.{Fits}
use Rattle.refusal.specs.Answer.{accepted, refused, refusal_of}
use Rattle.refusal.specs.declared.Refusal.{Refusal}
use Rattle.node_info.specs.Capacity.{subtree_capacity}
use Rattle.node_info.proofs.Columns.{levels_length, subtree_entry}
use lib.ListN.{length, take, length-take}
use lib.Seq.{get_or-take}
use Rattle.node_info.specs.Table.{no_level}
use Rattle.node_info.specs.declared.NodeInfo.{NodeInfo}
use Rattle.node_info.specs.declared.Level.{Level}
use Rattle.plan.specs.Steps.{Passed, Found, HoldsNone, capacity_in, Countable, Counted}
use Rattle.std.specs.Prelude.{Ok}
use Rattle.plan.specs.declared.Counts.{Counts}
use Rattle.plan.specs.Planned.{thin, plan_depth, planned, plan_figures, plan_answer, Laid}
use Rattle.plan.proofs.Accepted.{thin_plan}
use Rattle.plan.proofs.Checks.{checks_10, checks_11, checks_passed}
use Rattle.plan.proofs.Depths.{depth_small}
use Rattle.plan.proofs.Plans.{plan_agree, thin_agree}
use Rattle.node_info.specs.declared.Geometry.{Geometry}

either : (a b : Bool) → (a || not b) ≡ not (not a && b)
either true b = refl
either false b = refl

-- `Planning::lay_out`, where the search has found no depth.
pub laid_10 : (n : ℕ) (g : Geometry) → Passed n g → (i : NodeInfo) (cause : Refusal) → HoldsNone n g i cause → refusal_of cause ≡ plan_answer n g
laid_10 n g pass i cause none = rw (none.is_cause, checks_10 n g pass none.empty) refl

-- `Planning::lay_out`, where the search has found the depth.
module _ (n : ℕ) (g : Geometry) (pass : Passed n g) (i : NodeInfo) (d : ℕ) (found : Found n g i d) where
  pub level_deep : d ≤ 32
  level_deep = omega (arith, found.low)

  module _ (t : Bool) (ht : t ≡ (not (eqb n 0) && ltb n (2 ^ (d + 1) - 1))) where
    passing : (eqb n 0 || not (thin (subtree_capacity g) (plan_depth n g) n)) ≡ not t
    passing = rw (thin_plan n g pass found.holds, either, ht, found.is_depth)

    pub laid_11 : t ≡ true → refused 11 [] ≡ plan_answer n g
    laid_11 e = sym (checks_11 n g pass found.holds (passing ∙ ap not e))

    module _ (et : t ≡ false) where
      passed : plan_answer n g ≡ accepted (plan_figures n g)
      passed = checks_passed n g pass found.holds (passing ∙ ap not et)

      long : length (take d i.levels) ≡ d
      long = rw length-take (omega (arith, rw (← found.table) at (levels_length g d)))

      agree : (u : ℕ) → u < d → capacity_in (take d i.levels) u ≡ subtree_capacity g u
      agree u h =
          ap (λ (l : Level). l.cum_max_nrec) (get_or-take d i.levels u no_level h) ∙ subtree_entry g d i found.table u (omega arith) level_deep

      short : (u : ℕ) → u < d → subtree_capacity g u < n
      short u h = depth_small n g u (rw found.is_depth at h)

      thick : 0 < d → thin (subtree_capacity g) d n ≡ false
      thick h = rw found.is_depth (not-true _ (rw (ne_eqb n 0 (omega (arith, short 0 h)), et) at passing))

      pub laid_countable : Countable (take d i.levels) n
      laid_countable =
          record {
            few = omega (arith, pass.few);
            thick = λ h. rw (long, thin_agree (capacity_in (take d i.levels)) (subtree_capacity g) d n agree) (thick (rw long at h));
          }

      pub laid_done : (counts : Counts) → Counted (take d i.levels) n counts
          → Laid n g (Ok (record {
            plan = record { depth = d; nodes = counts.nodes; leaves = counts.leaves; image_size = counts.nodes * g.node_size };
            info = i;
          }))
      unfolding plan_figures planned
      laid_done counts counted =
          let same = plan_agree (capacity_in (take d i.levels)) (subtree_capacity g) d n agree in
          let nx = rw (long, same, found.is_depth) at counted.«nodes» in
          let ny = rw (long, same, found.is_depth) at counted.«leaves» in
          record { answered = rw (passed, nx, ny, found.is_depth); table = rw found.is_depth at found.table }

-- The image's size.
pub image_fits : (x ns : ℕ) → x < 2 ^ 24 → ns ≤ 65536 → Fits w64 (x * ns)
image_fits x ns h l = let s : x ≤ 2 ^ 24 = omega arith in omega (arith, mul-le-mul s l)
