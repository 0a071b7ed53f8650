-- Opening a header's tree: its ways out, and what a tree that is opened has.
use mathlib.Core.Path.{◌≡◌, sym, ◌∙◌}
use mathlib.Core.Bool.{true, false}
use mathlib.Core.List.{List, []}
use Prim.Native.Nat.{ℕ, ◌≤◌, ◌<◌}
use native.Mathlib.Omega.{arith}
use lib.ListN.{length}
use Rattle.refusal.specs.Answer.{Answer, accepted, refusal_of}
use Rattle.refusal.specs.declared.Refusal.{Refusal}
use Rattle.refusal.specs.declared.Refusal.TheVariants.{BaseBeyondFile}
use Rattle.read_checks.specs.Tests.{root_test}
use Rattle.read_checks.proofs.Base.{on_part_within, on_part_beyond}
use Rattle.read_checks.proofs.Root.{Rooted, root_passed}
use Rattle.btree_v2_header.specs.declared.BTreeV2Header.{BTreeV2Header}
use Rattle.btree_v2_collect.specs.Opening.{nothing_in, opening}

module _ (file : List ℕ) (h : BTreeV2Header) where
  pub beyond : (q : Refusal) → length file < h.base → q ≡ BaseBeyondFile → refusal_of q ≡ opening file h
  beyond q past is = rw (is, on_part_beyond _ _ file h.base past)

  module _ (within : h.base ≤ length file) where
    pub empty : true ≡ nothing_in h → (accepted [] ≡ opening file h) × (true ≡ nothing_in h)
    empty none = (rw (on_part_within _ _ file h.base within, ← none), none)

    pub tested : false ≡ nothing_in h → (a : Answer) → a ≡ root_test h.geometry.record_size h.depth → a ≡ opening file h
    tested some a is = is ∙ rw (on_part_within _ _ file h.base within, ← some)

-- What passed the tests before the root.
module _ (rs depth : ℕ) (passes : accepted [] ≡ root_test rs depth) where
  rooted : Rooted rs depth
  rooted = root_passed rs depth (sym passes)

  pub root_sized : 0 < rs
  root_sized = omega (arith, rooted.sized)

  pub root_deep : depth ≤ 32
  root_deep = rooted.deep
