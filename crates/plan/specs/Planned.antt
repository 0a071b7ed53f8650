-- The shape of the tree that is written for n records, and the planner's answer: document 01, "Planner" and "Causes and numbers".
use Rattle.std.specs.Prelude.{◌≡◌, ℕ, zero, suc, ◌+◌, ◌-◌, ◌*◌, ◌/◌, ◌%◌, ◌^◌, max, Bool, false, not, ◌||◌, ◌&&◌, List, [], ◌∷◌, ◌++◌, leb, ltb, eqb, replicate, Result, IfOk}
use Rattle.numbers.specs.Numbers.{least_from, field_size}
use Rattle.refusal.specs.Answer.{Answer, accepted, refused, answer_of, or_else}
use Rattle.refusal.specs.declared.Refusal.{Refusal}
use Rattle.node_info.specs.Capacity.{subtree_capacity, node_capacity}
use Rattle.node_info.specs.Table.{info_at}
use Rattle.plan.specs.Tree.{Kids, last, more, Tree, nodes, leaves}
use Rattle.plan.specs.declared.BTreeV2Plan.{BTreeV2Plan}
use Rattle.plan.specs.declared.PlanAndTable.{PlanAndTable}
use Rattle.plan.specs.declared.Distribution.{Distribution}
use Rattle.node_info.specs.declared.Geometry.{Geometry}

-- a / b, rounded up, for b above 0.
abbrev pub ceil_div : ℕ → ℕ → ℕ
ceil_div a b = (a + (b - 1)) / b

-- k: the records that an internal node of n records in all keeps, if each child's subtree holds c at most.
unfoldable pub taken : ℕ → ℕ → ℕ
taken c n = max 1 (ceil_div (n - c) (c + 1))

-- m records distributed to p children: the first m % p of them get one more.
unfoldable pub distributed : ℕ → ℕ → List ℕ
distributed m p = replicate (m % p) (m / p + 1) ++ replicate (p - m % p) (m / p)

-- The children's numbers of records.
unfoldable pub children : ℕ → ℕ → List ℕ
children c n = distributed (n - taken c n) (taken c n + 1)

-- The same as the code has it: of a node that keeps k records and distributes m; and of n records where each child's subtree holds c at most.
abbrev pub keeping : ℕ → ℕ → Distribution
keeping k m = record { kept = k; base = m / (k + 1); extra = m % (k + 1) }

abbrev pub distribution : ℕ → ℕ → Distribution
distribution c n = keeping (taken c n) (n - taken c n)

-- The children of these numbers, each made by f; a node has one at least.
unfoldable pub kids_of : {A : Type 0} → (ℕ → A) → List ℕ → Kids A
kids_of f [] = last (f 0)
kids_of f (n ∷ []) = last (f n)
kids_of f (n ∷ m ∷ ns) = more (f n) (kids_of f (m ∷ ns))

-- The tree of depth d for n records, if subtrees of each level u hold c u at most.
unfoldable pub plan_tree : (ℕ → ℕ) → (d : ℕ) → ℕ → Tree d
plan_tree c zero n = n
plan_tree c (suc d) n = kids_of (plan_tree c d) (children (c d) n)

unfoldable pub any_of : (ℕ → Bool) → List ℕ → Bool
any_of f [] = false
any_of f (n ∷ ns) = f n || any_of f ns

-- Whether the subtree, or one in it, has too few records for its depth d: below 2^(d + 1) - 1.
unfoldable pub thin : (ℕ → ℕ) → ℕ → ℕ → Bool
thin c zero n = ltb n 1
thin c (suc d) n = ltb n (2 ^ (d + 2) - 1) || any_of (thin c d) (children (c d) n)

module _ (n : ℕ) (g : Geometry) where
  -- The depth of the planned tree: the least d with C(d) at least n. It is sought up to level 32; a plan that is accepted has 23 at most.
  unfoldable pub plan_depth : ℕ
  plan_depth = least_from (λ u. leb n (subtree_capacity g u)) 32 0

  -- The first of the levels needed for it, 0 to the depth, whose nodes hold none (M = 0); one above the depth where each holds records.
  unfoldable pub empty_level : ℕ
  empty_level = least_from (λ u. eqb (node_capacity g u) 0) (plan_depth + 1) 0

  -- The planned tree.
  unfoldable pub planned : Tree plan_depth
  planned = plan_tree (subtree_capacity g) plan_depth n

  -- Depth, node count, leaf count and image size.
  unfoldable pub plan_figures : List ℕ
  plan_figures =
      plan_depth ∷ nodes plan_depth planned ∷ leaves plan_depth planned ∷ nodes plan_depth planned * g.node_size ∷ []

  -- The planner's answer: the refusals in their order, or the figures.
  unfoldable pub plan_answer : Answer
  plan_answer =
      or_else (field_size g.offset_size) (refused 4 (g.offset_size ∷ []))
      (or_else (leb 10 g.node_size && leb g.node_size 65536) (refused 7 (g.node_size ∷ []))
      (or_else (ltb 0 g.record_size) (refused 8 [])
      (or_else (leb n 16777215) (refused 9 (n ∷ []))
      (or_else (eqb n 0 || ltb plan_depth empty_level) (refused 10 (empty_level ∷ []))
      (or_else (eqb n 0 || not (thin (subtree_capacity g) plan_depth n)) (refused 11 []) (accepted plan_figures))))))

-- A plan's numbers, in that order; and what a call gives, in those terms.
abbrev pub plan_numbers : BTreeV2Plan → List ℕ
plan_numbers p = p.depth ∷ p.nodes ∷ p.leaves ∷ p.image_size ∷ []

abbrev pub plan_answer_of : Result BTreeV2Plan Refusal → Answer
plan_answer_of = answer_of plan_numbers

abbrev pub laid_answer_of : Result PlanAndTable Refusal → Answer
laid_answer_of = answer_of (λ laid. plan_numbers laid.plan)

-- What a plan with its table is: the planner's answer, and the table of the plan's depth where that accepts.
pub record Laid (n : ℕ) (g : Geometry) (laid : Result PlanAndTable Refusal) : Type 0 where
  pub answered : laid_answer_of laid ≡ plan_answer n g
  pub table : IfOk laid (λ l. l.info ≡ info_at g (plan_depth n g))
