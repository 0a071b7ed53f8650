-- Collecting's tests accept with no figures, and a node only where its records are there.
use mathlib.Core.Path.{ap, ◌∙◌}
use mathlib.Core.List.{List}
use Prim.Native.Nat.{ℕ}
use native.Mathlib.Omega.{arith}
use Rattle.refusal.specs.Answer.{accepted}
use Rattle.read_checks.proofs.Plain.{accepts, no_figures}
use Rattle.node_info.specs.declared.Geometry.{Geometry}
use Rattle.btree_v2_leaf.proofs.Records.{leaf_there, leaf_plain}
use Rattle.btree_v2_internal.proofs.Nodes.{internal_there, internal_plain}
use Rattle.btree_v2_collect.specs.Collect.{collect_tests}
use Rattle.btree_v2_collect.proofs.InFile.{RecordsThere}

pub collecting_there : (file : List ℕ) (g : Geometry) → RecordsThere file g (collect_tests file g)
unfolding collect_tests
collecting_there file g =
    record {
      leaf = λ a n figures e. (no_figures (leaf_plain file _ a n) e, leaf_there file _ a n figures e);
      internal = λ d a n figures e.
          let none = no_figures (internal_plain file _ _ _ a n) e in
          let has = internal_there file _ _ _ a n (e ∙ ap accepted none) in
          (none, omega (arith, has.0, has.1));
      child = λ d p m figures e. no_figures accepts e;
    }
