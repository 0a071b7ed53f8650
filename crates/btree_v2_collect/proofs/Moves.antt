-- The steps of the walk's state, one after another.
use Rattle.std.specs.Prelude.{Result, ⊤, Ok, Err}
use mathlib.Core.List.{List}
use mathlib.Core.Path.{◌≡◌, ◌∙◌, subst}
use Prim.Native.Nat.{ℕ, ◌+◌, ◌-◌, ◌≤◌, ◌<◌}
use Rattle.refusal.specs.declared.Refusal.{Refusal}
use Rattle.btree_v2_collect.specs.declared.tree.Tree.{Tree}
use Rattle.btree_v2_collect.specs.declared.collect.Walk.{Walk}
use Rattle.node_info.specs.declared.Geometry.{Geometry}
use Rattle.read_checks.specs.declared.Node.{Node}
use Rattle.btree_v2_internal.specs.declared.Internal.{Internal}
use Rattle.btree_v2_internal.specs.Pointers.{address_at, records_at}
use Rattle.btree_v2_collect.specs.declared.Tally.{Tally}
use Rattle.btree_v2_collect.specs.Walk.{Counts, own_record_run}
use Rattle.btree_v2_collect.specs.Collecting.{counts_of, internal_at, NodeThere, Walked, node_walk, children_walk}
use Rattle.btree_v2_collect.specs.State.{Walks}
use Rattle.btree_v2_collect.proofs.Walking.{Step}
use Rattle.btree_v2_collect.proofs.Nodes.{child_by, none_after}
use Rattle.btree_v2_collect.proofs.Steps.{child_stops, child_tested, first_stops, record_stops, second_reads}

-- Children of an internal node, and its record i.
abbrev children : (d a n m i : ℕ) → Tree → Step
children d a n m i x = children_walk x.file.now x.geometry d a n m i

abbrev own_record : (a i : ℕ) → Tree → Step
own_record a i x = own_record_run x.file.now x.geometry a i

-- A step over the same tree.
same_tree : (step : Tree → Step) (tree : Tree) {s1 s2 : Walk} {v : Result ⊤ Refusal} → s1.tree ≡ tree → Walks s1 (step s1.tree) v s2
    → Walked (step tree (counts_of s1.tally) s1.output.now) v s2.tally s2.output.now
same_tree step tree {s1} {s2} {v} e h = subst (λ (x : Tree). Walked (step x (counts_of s1.tally) s1.output.now) v s2.tally s2.output.now) e h.walked

-- More than one child: those from child i to child j, record j, and those up to child k.
module _ (s0 s1 : Walk) (d a n i j k : ℕ) (low : i ≤ j) (high : j < k) (v : Result ⊤ Refusal) (first : Walks s0 (children d a n (j - i) i s0.tree) v s1) where
  pub first_refused : (q : Refusal) → v ≡ Err q → Walks s0 (children d a n (k - i) i s0.tree) v s1
  first_refused q e =
      record {
        walked = first_stops _ _ _ d a n i _ _ j k low high v s1.tally s1.output.now first.walked q e;
        tree = first.tree;
        output = first.output;
      }

  module _ (read : v ≡ Ok tt) (s2 : Walk) (w : Result ⊤ Refusal) (put : Walks s1 (own_record a j s1.tree) w s2) where
    middle_put : Walked (own_record a j s0.tree (counts_of s1.tally) s1.output.now) w s2.tally s2.output.now
    middle_put = same_tree (own_record a j) s0.tree first.tree put

    pub middle_refused : (q : Refusal) → w ≡ Err q → Walks s0 (children d a n (k - i) i s0.tree) w s2
    middle_refused q e =
        record {
          walked = record_stops _ _ _ d a n i _ _ j k low high v s1.tally s1.output.now first.walked read w s2.tally s2.output.now middle_put q e;
          tree = put.tree ∙ first.tree;
          output = put.output ∙ first.output;
        }

    pub others_read : w ≡ Ok tt → (s3 : Walk) (u : Result ⊤ Refusal) → Walks s2 (children d a n (k - (j + 1)) (j + 1) s2.tree) u s3
        → Walks s0 (children d a n (k - i) i s0.tree) u s3
    others_read e s3 u others =
        let rest = same_tree (children d a n (k - (j + 1)) (j + 1)) s0.tree (put.tree ∙ first.tree) others in
        record {
          walked = second_reads _ _ _ d a n i _ _ j k low high v s1.tally s1.output.now first.walked read w s2.tally s2.output.now middle_put e u s3.tally s3.output.now rest;
          tree = others.tree ∙ put.tree ∙ first.tree;
          output = others.output ∙ put.output ∙ first.output;
        }

-- An accepted answer, taken apart.
pub walks_accepted : (s0 s1 : Walk) (step : Step) (v : Result ⊤ Refusal) → v ≡ Ok tt → Walks s0 step v s1 → Walks s0 step (Ok tt) s1
walks_accepted s0 s1 step v e h = rw e at h

-- One child, and nothing after it, by what its pointer says.
module _ (file : List ℕ) (g : Geometry) (d : ℕ) (x : Internal) (is : x ≡ internal_at g d x.node) (there : NodeThere file g x.node.address x.node.records)
    (i k : ℕ) (one : i ≡ k) (child : Node) (address : child.address ≡ address_at file x i) (records : child.records ≡ records_at file x i)
    (c : Counts) (o : List ℕ) (v : Result ⊤ Refusal) (t : Tally) (o1 : List ℕ)
    (walked : Walked (node_walk file g d child.address child.records c o) v t o1) where
  pub child_refused : (q : Refusal) → v ≡ Err q → Walked (children_walk file g d x.node.address x.node.records (k - i) i c o) v t o1
  child_refused q e = child_stops file g _ d _ _ i c o k one child (child_by file g d x is there i child address records) v t o1 walked q e

  pub child_read : v ≡ Ok tt → Walked (children_walk file g d x.node.address x.node.records (k - i) i c o) (Ok tt) t o1
  child_read e =
      child_tested file g _ d _ _ i c o k one child (child_by file g d x is there i child address records) v t o1 walked e (Ok tt) (none_after file g d _ _)
