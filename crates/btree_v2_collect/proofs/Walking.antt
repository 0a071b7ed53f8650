-- One induction for the walk: what holds of the records and of a leaf, and goes from a node over to the child step, from children and the
-- records between them to a run of them, and from the run to their node, holds of the walk over a node of any level.
use mathlib.Core.List.{List}
use Prim.Native.Nat.{ℕ, zero, suc, ◌+◌, ◌-◌}
use Rattle.btree_v2_collect.specs.Walk.{Counts, Run, fine, and_then, if_passed, with_internal, Tests, put_record, records_put, leaf_run, child_run, own_record_run, children_run, node_run, pointer_to, address_in, records_in}
use Rattle.node_info.specs.declared.Geometry.{Geometry}

abbrev pub Step : Type 0
Step = Counts → List ℕ → Run

-- One step after another.
abbrev pub and_step : Step → Step → Step
and_step f g c o = and_then (f c o) g

module _ (file : List ℕ) (g : Geometry) where
  -- P of n records from place p on.
  pub record Putting (P : (n p : ℕ) → Step → Type 0) : Type 0 where
    pub none : {p : ℕ} → P 0 p fine
    pub more : {n p : ℕ} {others : Step} → P n (p + g.record_size) others → P (suc n) p (and_step (put_record file g p) others)

  pub records_walked : {P : (n p : ℕ) → Step → Type 0} → Putting P → (n p : ℕ) → P n p (records_put file g n p)
  unfolding records_put
  records_walked w zero p = w.none
  records_walked w (suc n) p = w.more (records_walked w n (p + g.record_size))

module _ (file : List ℕ) (g : Geometry) (tests : Tests) where
  -- N of the node of level d at a with n records; C of m + 1 children from child i on, and R of record i, of the internal node at a with n
  -- records whose children have level d.
  pub record Walking (N : (d a n : ℕ) → Step → Type 0) (C : (d a n m i : ℕ) → Step → Type 0) (R : (d a n i : ℕ) → Step → Type 0) : Type 0 where
    pub leaf : (a n : ℕ) → N 0 a n (leaf_run file g tests a n)
    pub internal : (d a n : ℕ) {children : Step} → C d a n n 0 children
        → N (suc d) a n (λ c o. if_passed (tests.internal d a n) c o (children (with_internal c) o))
    pub child : (d a n i : ℕ) {node : Step} → N d (address_in file g (pointer_to g d a n i)) (records_in file g (pointer_to g d a n i)) node
        → C d a n 0 i
        (λ c o. and_then (node c o) (λ c1 o1. if_passed (tests.child d (pointer_to g d a n i) (c1.records - c.records)) c1 o1 (fine c1 o1)))
    pub own_record : (d a n i : ℕ) → R d a n i (own_record_run file g a i)
    pub more : {d a n m i : ℕ} {one between others : Step} → C d a n 0 i one → R d a n i between → C d a n m (i + 1) others
        → C d a n (suc m) i (and_step one (and_step between others))

  module _ {N : (d a n : ℕ) → Step → Type 0} {C : (d a n m i : ℕ) → Step → Type 0} {R : (d a n i : ℕ) → Step → Type 0} (w : Walking N C R) where
    child_walked : (d a n i : ℕ) → ((b k : ℕ) → N d b k (node_run file g tests d b k))
        → C d a n 0 i (child_run file g tests d a n (node_run file g tests d) i)
    unfolding child_run
    child_walked d a n i each = w.child d a n i (each _ _)

    run_walked : (d a n m i : ℕ) → ((b k : ℕ) → N d b k (node_run file g tests d b k))
        → C d a n m i (children_run file g tests d a n (node_run file g tests d) m i)
    unfolding children_run
    run_walked d a n zero i each = child_walked d a n i each
    run_walked d a n (suc m) i each = w.more (child_walked d a n i each) (w.own_record d a n i) (run_walked d a n m (i + 1) each)

    pub node_walked : (d a n : ℕ) → N d a n (node_run file g tests d a n)
    unfolding node_run
    node_walked zero a n = w.leaf a n
    node_walked (suc d) a n = w.internal d a n (run_walked d a n n 0 (node_walked d))

    pub children_walked : (d a n m i : ℕ) → C d a n m i (children_run file g tests d a n (node_run file g tests d) m i)
    children_walked d a n m i = run_walked d a n m i (node_walked d)
