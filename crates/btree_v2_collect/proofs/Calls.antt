-- Collecting a header's tree: nothing to read, the refusals before the root, and the walk from the root on.
use Rattle.std.specs.Prelude.{Result, Ok, Err, ⊤}
use mathlib.Core.Path.{◌≡◌, refl, sym, ap, ◌∙◌}
use mathlib.Core.List.{List, [], ◌∷◌, ◌++◌}
use Prim.Native.Nat.{ℕ, ◌^◌, ◌<◌}
use mathlib.Core.Bool.{true}
use Rattle.numbers.proofs.Numbers.{saturated_small}
use Rattle.refusal.specs.declared.Refusal.{Refusal}
use Rattle.refusal.specs.Answer.{accepted, refusal_of, cells, verdict_of}
use Rattle.refusal.proofs.Answers.{refused_is}
use Rattle.btree_v2_collect.specs.Walk.{Run, fine, stopped, if_passed, no_counts}
use Rattle.btree_v2_collect.specs.Collect.{collected_at, count_cells, run_cells, run_output}
use Rattle.btree_v2_collect.proofs.Outcomes.{collected_opens}
use Rattle.btree_v2_header.specs.declared.BTreeV2Header.{BTreeV2Header}
use Rattle.btree_v2_collect.specs.declared.Tally.{Tally}
use Rattle.btree_v2_collect.specs.declared.Collected.{Collected}
use Rattle.btree_v2_collect.specs.Answers.{Ends, collected_cells}
use Rattle.btree_v2_collect.specs.Collecting.{counts_of, nothing_read, run_of, saturated_run, Walked, node_walk}
use Rattle.btree_v2_collect.specs.Opening.{nothing_in, opening, Opened}
use Rattle.btree_v2_collect.specs.declared.tree.Tree.{Tree}
use Rattle.btree_v2_collect.proofs.Holding.{saturated_saturated}

-- Held counts or exact ones: the same cells and output.
cells_saturated : (x : Run) → run_cells (saturated_run x) ≡ run_cells x
unfolding run_cells
cells_saturated (fine c o) = simp saturated_saturated
cells_saturated (stopped number values c o) = simp saturated_saturated

output_saturated : (x : Run) → run_output (saturated_run x) ≡ run_output x
output_saturated (fine c o) = refl
output_saturated (stopped number values c o) = refl

-- An answer's own cells and output.
cells_of : (v : Result ⊤ Refusal) (t : Tally) (o : List ℕ) → run_cells (run_of v t o) ≡ cells 3 (verdict_of v) ++ count_cells (counts_of t)
unfolding run_cells
cells_of (Ok _) t o = refl
cells_of (Err q) t o = rw (refused_is q).2

output_of : (v : Result ⊤ Refusal) (t : Tally) (o : List ℕ) → run_output (run_of v t o) ≡ o
output_of (Ok _) t o = refl
output_of (Err q) t o = rw (refused_is q).2

-- Counts that fit words, as they are told.
pub count_cells_of : (t : Tally) → t.records < 2 ^ 64 → t.leaves < 2 ^ 64 → t.internals < 2 ^ 64 → t.internal_records < 2 ^ 64
    → count_cells (counts_of t) ≡ t.records ∷ t.leaves ∷ t.internals ∷ t.internal_records ∷ []
count_cells_of t records leaves internals internal_records =
    rw (saturated_small _ records, saturated_small _ leaves, saturated_small _ internals, saturated_small _ internal_records)

pub ends_walked : (x : Run) (v : Result ⊤ Refusal) (t : Tally) (o : List ℕ) → Walked x v t o → (r : Collected)
    → collected_cells r ≡ cells 3 (verdict_of v) ++ count_cells (counts_of t) → (exit : List ℕ) → exit ≡ o → Ends x r exit
ends_walked x v t o walked r told exit same = (
  told ∙ sym (sym (cells_saturated x) ∙ ap run_cells (sym walked.ends) ∙ cells_saturated (run_of v t o) ∙ cells_of v t o),
  same ∙ sym (sym (output_saturated x) ∙ ap run_output (sym walked.ends) ∙ output_saturated (run_of v t o) ∙ output_of v t o),
)

-- Nothing is read, and the verdict is all there is to tell.
pub ends_so : (v : Result ⊤ Refusal) (o : List ℕ) (x : Run) → x ≡ if_passed (verdict_of v) no_counts o (fine no_counts o) → Ends x (nothing_read v) o
unfolding run_cells
ends_so (Ok _) o x e = rw e (refl, refl)
ends_so (Err q) o x e = rw (e, (refused_is q).2) (refl, refl)

-- The call, by what opening the tree gives.
module _ (file : List ℕ) (h : BTreeV2Header) (o : List ℕ) where
  pub ends_refused : (q : Refusal) → refusal_of q ≡ opening file h → Ends (collected_at file h o) (nothing_read (Err q)) o
  ends_refused q e = ends_so (Err q) o _ (collected_opens file h o ∙ rw (← e, (refused_is q).2))

  module _ (passes : accepted [] ≡ opening file h) where
    pub ends_empty : true ≡ nothing_in h → Ends (collected_at file h o) (nothing_read (Ok tt)) o
    ends_empty none = ends_so (Ok tt) o _ (collected_opens file h o ∙ rw (← passes, ← none))

    -- From the root on: the walk, told by its own end.
    pub ends_read : (t : Tree) → Opened file h t → (r : Collected) (o1 : List ℕ)
        → Ends (node_walk t.file.now t.geometry t.depth t.root.address t.root.records no_counts o) r o1 → Ends (collected_at file h o) r o1
    ends_read t is r o1 read =
        rw (collected_opens file h o, ← passes, ← is.some, ← is.part, ← is.address, ← is.records, ← is.geometry, ← is.depth) read
