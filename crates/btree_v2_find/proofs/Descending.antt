-- The descent: the loop of `descend`, with a law for each way out of it.
use mathlib.Core.Path.{◌≡◌, refl, sym, ap, ◌∙◌}
use mathlib.Core.List.{List, []}
use Prim.Native.Nat.{ℕ, suc, ◌+◌, ◌-◌, ◌≤◌, ◌<◌, min}
use native.Mathlib.Nat.{min-eq_left}
use native.Mathlib.Omega.{arith}
use lib.ListN.{length}
use Rattle.std.specs.Prelude.{Option, Some, None, Result, ⊤, Ok, Err}
use Rattle.std.specs.Option.{option_or}
use Rattle.refusal.specs.Answer.{Answer, accepted, refusal_of, verdict_of}
use Rattle.refusal.specs.declared.Refusal.{Refusal}
use Rattle.refusal.proofs.Answers.{refused_is}
use Rattle.node_info.specs.declared.Geometry.{Geometry}
use Rattle.node_info.specs.declared.NodeInfo.{NodeInfo}
use Rattle.node_info.specs.Table.{info_at, pointer_size, pointer_in}
use Rattle.node_info.proofs.Columns.{pointer_entry}
use Rattle.field.specs.declared.Field.{Field}
use Rattle.field.specs.Field.{number_at}
use Rattle.btree_v2_leaf.specs.Leaf.{leaf_test}
use Rattle.read_checks.specs.declared.Node.{Node}
use Rattle.btree_v2_internal.specs.declared.Internal.{Internal}
use Rattle.btree_v2_internal.specs.Internal.{internal_test}
use Rattle.btree_v2_internal.specs.Pointers.{address_at, records_at}
use Rattle.btree_v2_collect.specs.Walk.{record_place}
use Rattle.btree_v2_collect.specs.InFile.{at_child}
use Rattle.btree_v2_collect.specs.Collect.{collect_tests}
use Rattle.btree_v2_collect.specs.Collecting.{NodeThere, internal_at}
use Rattle.btree_v2_collect.proofs.Nodes.{tested_by, child_by, leaf_tested, leaf_there, node_there}
use Rattle.btree_v2_find.specs.Find.{one_of, last_with, Descent, ended, on_passed, behind, bound, bounding, descent, place_found, find_cells}
use Rattle.btree_v2_find.specs.Answers.{place_of, found_cells, found_of}
use Rattle.btree_v2_find.specs.Descending.{GoesOn}
use Rattle.btree_v2_find.proofs.Keys.{one_assoc, last_append}

-- How a descent goes on, and ends.
module _ (file : List ℕ) (f : Field) (x : ℕ) (whole : Descent) where
  abbrev last : List ℕ → List ℕ
  last = last_with (number_at file f) x

  past : (k : ℕ) (kept ps : List ℕ) (next : Descent) → GoesOn file f x whole (behind ps next) k kept
      → GoesOn file f x whole next (k + 1) (one_of (last ps) kept)
  past k kept ps next on =
      record {
        ends = on.ends;
        nodes = on.nodes ∙ omega arith;
        last = on.last ∙ rw (last_append (number_at file f) x ps next.bounds) (sym (one_assoc (last next.bounds) (last ps) kept));
      }

  pub ends_refused : (k : ℕ) (kept : List ℕ) (q : Refusal) → GoesOn file f x whole (ended (refusal_of q)) k kept
      → found_cells (found_of k (Err q)) ≡ find_cells file f x whole
  unfolding find_cells place_found
  ends_refused k kept q on =
      let e = (refused_is q).2 in
      let n : whole.nodes ≡ k = on.nodes ∙ omega arith in
      rw (on.ends, n, e)

  pub ends_found : (k : ℕ) (kept : List ℕ) (p : Option ℕ) → place_of p ≡ kept → GoesOn file f x whole (ended (accepted [])) k kept
      → found_cells (found_of k (Ok p)) ≡ find_cells file f x whole
  unfolding find_cells place_found last_with
  ends_found k kept p is on =
      let n : whole.nodes ≡ k = on.nodes ∙ omega arith in
      rw (is, on.ends, n, on.last)

module _ (file : List ℕ) (g : Geometry) (f : Field) (x depth : ℕ) (root : Node) where
  abbrev down : ℕ → ℕ → ℕ → Descent
  down = descent file g f x (collect_tests file g)

  abbrev whole : Descent
  whole = down depth root.address root.records

  -- The loop of `descend`: the descent has come to a node of this level behind k nodes, with the place kept of these.
  pub record Going (node : Node) (kept : Option ℕ) (level k : ℕ) : Type 0 where
    pub low : level ≤ depth
    pub counts : k + level ≡ depth
    pub on : GoesOn file f x whole (down level node.address node.records) k (place_of kept)

  or_place : (o p : Option ℕ) → place_of (option_or o p) ≡ one_of (place_of o) (place_of p)
  or_place None p = refl
  or_place (Some i) p = refl

  module _ {node : Node} {kept : Option ℕ} {level k : ℕ} (going : Going node kept level k) where
    abbrev a : ℕ
    a = node.address

    abbrev n : ℕ
    n = node.records

    abbrev found_here : List ℕ
    found_here = last_with (number_at file f) x (bounding file g f x a n)

    -- An internal node, whose children have level u.
    module _ (info : NodeInfo) (filled : info ≡ info_at g (min depth 32)) (deep : depth ≤ 32) (some : 0 < level) (internal : Internal)
        (by_table : internal ≡ record { node = node; record_size = g.record_size; pointer = pointer_in info g.offset_size (level - 1) }) where
      abbrev u : ℕ
      u = level - 1

      table : info ≡ info_at g depth
      table = rw (min-eq_left deep) at filled

      abbrev test : Answer
      test =
          internal_test file internal.record_size internal.pointer.offset_size (pointer_size internal.pointer) internal.node.address internal.node.records

      is : internal ≡ internal_at g u node
      is = rw (by_table, pointer_entry g depth info table u (omega (arith, going.low)) deep g.offset_size)

      tests : (v : Result ⊤ Refusal) → verdict_of v ≡ test → verdict_of v ≡ (collect_tests file g).internal u a n
      tests v code = tested_by file g u (internal_at g u node) refl v (rw is at code)

      abbrev next : Descent
      next = at_child file g (down u) u a n (bound file g f x a n)

      opens : down level a n ≡ on_passed ((collect_tests file g).internal u a n) (behind (bounding file g f x a n) next)
      unfolding descent
      opens = let above : level ≡ suc u = omega arith in ap (λ d. down d a n) above

      pub internal_stops : (q : Refusal) → refusal_of q ≡ test → found_cells (found_of k (Err q)) ≡ find_cells file f x whole
      internal_stops q refuses =
          let there = rw (opens, ← tests (Err q) refuses, (refused_is q).2) at going.on in
          ends_refused file f x whole k (place_of kept) q (rw (refused_is q).2 there)

      module _ (passes : accepted [] ≡ test) where
        tested : accepted [] ≡ (collect_tests file g).internal u a n
        tested = tests (Ok tt) passes

        there : NodeThere file g a n
        there = node_there file g u a n (Ok tt) tested refl

        pub internal_there : record_place g a n ≤ length file
        internal_there = there.records

        pub internal_turn : (i : ℕ) → i ≡ bound file g f x a n → (o : Option ℕ) → place_of o ≡ found_here → (kept1 : Option ℕ) → kept1 ≡ option_or o kept
            → (b : Node) → b.address ≡ address_at file internal i → b.records ≡ records_at file internal i → Going b kept1 u (k + 1)
        internal_turn i e o here kept1 keeps b address records =
            let child = child_by file g u (internal_at g u node) refl there i b (rw is at address) (rw is at records) in
            let on = rw (opens, ← tested) at going.on in
            record {
              low = omega (arith, going.low);
              counts = omega (arith, going.counts);
              on = rw (child.address, child.records, e, keeps, or_place, here) (past file f x whole k (place_of kept) (bounding file g f x a n) next on);
            }

    -- The leaf.
    module _ (bottom : level ≤ 0) where
      ends : down level a n ≡ on_passed ((collect_tests file g).leaf a n) (behind (bounding file g f x a n) (ended (accepted [])))
      unfolding descent
      ends = let least : level ≡ 0 = omega arith in ap (λ d. down d a n) least

      pub leaf_stops : (q : Refusal) → refusal_of q ≡ leaf_test file g.record_size a n → found_cells (found_of k (Err q)) ≡ find_cells file f x whole
      leaf_stops q refuses =
          let there = rw (ends, ← leaf_tested file g a n (Err q) refuses, (refused_is q).2) at going.on in
          ends_refused file f x whole k (place_of kept) q (rw (refused_is q).2 there)

      module _ (passes : accepted [] ≡ leaf_test file g.record_size a n) where
        pub leaf_searched : record_place g a n ≤ length file
        leaf_searched = leaf_there file g a n (Ok tt) passes refl

        pub leaf_found : (o : Option ℕ) → place_of o ≡ found_here → (p : Option ℕ) → p ≡ option_or o kept
            → found_cells (found_of (k + 1) (Ok p)) ≡ find_cells file f x whole
        leaf_found o here p keeps =
            let on = rw (ends, ← leaf_tested file g a n (Ok tt) passes) at going.on in
            let kept_is : place_of p ≡ one_of found_here (place_of kept) = rw (keeps, or_place, here) in
            ends_found file f x whole (k + 1) _ p kept_is (past file f x whole k (place_of kept) (bounding file g f x a n) (ended (accepted [])) on)
