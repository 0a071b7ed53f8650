-- The collector's steps, one after another: one law for each way out of them, in the forms in which the code has it.
use Rattle.std.specs.Prelude.{Result, ⊤, Ok, Err}
use mathlib.Core.Path.{◌≡◌, refl, sym, ap, fun_ext, ◌∙◌}
use mathlib.Core.List.{List}
use Prim.Native.Nat.{ℕ, zero, suc, ◌+◌, ◌-◌, ◌*◌, ◌≤◌, ◌<◌}
use native.Mathlib.Nat.{zero-add, add-zero, suc-add}
use native.Mathlib.Omega.{arith}
use Rattle.refusal.specs.declared.Refusal.{Refusal}
use Rattle.refusal.specs.Answer.{Answer, verdict_of}
use Rattle.btree_v2_collect.specs.Walk.{Counts, Run, fine, stopped, and_then, if_passed, with_leaf, with_internal, with_internal_record}
use Rattle.btree_v2_collect.specs.Walk.{Tests, put_record, records_put, leaf_run, child_run, own_record_run, children_run, node_run, record_place, pointer_to}
use Rattle.node_info.specs.declared.Geometry.{Geometry}
use Rattle.read_checks.specs.declared.Node.{Node}
use Rattle.btree_v2_internal.specs.declared.Internal.{Internal}
use Rattle.btree_v2_collect.specs.declared.Tally.{Tally}
use Rattle.btree_v2_collect.specs.Collecting.{counts_of, run_of, saturated_run, internal_at, ChildAt, Walked}
use Rattle.refusal.proofs.Answers.{refused_is}
use Rattle.numbers.specs.Numbers.{saturated}
use Rattle.btree_v2_collect.proofs.Outcomes.{then_then}
use Rattle.btree_v2_collect.proofs.Holding.{Alike, saturated_saturated, from_saturated, alike_after, count_alike, puts_alike, after_alike, own_record_alike, children_alike}
use Rattle.btree_v2_collect.proofs.Walking.{Step}

-- A step, and what follows it.
module _ {next : Step} (alike : Alike next) {x : Run} {v : Result ⊤ Refusal} {t : Tally} {o : List ℕ} (walked : Walked x v t o) where
  after : saturated_run (and_then x next) ≡ saturated_run (and_then (run_of v t o) next)
  after =
      sym (alike_after alike x) ∙ ap (λ y. saturated_run (and_then y next)) (sym walked.ends) ∙ alike_after alike (run_of v t o)

  go_on : v ≡ Ok tt → saturated_run (and_then x next) ≡ saturated_run (next (counts_of t) o)
  go_on e = after ∙ rw e

  hand_up : (q : Refusal) → v ≡ Err q → Walked (and_then x next) v t o
  hand_up q e =
      let stays : and_then (run_of v t o) next ≡ run_of v t o = rw (e, (refused_is q).2) in
      record { ends = sym (after ∙ ap saturated_run stays) }

-- A test that is refused, and one that is passed.
test_stops : (test : Answer) (v : Result ⊤ Refusal) (t : Tally) (o : List ℕ) (x : Run) (q : Refusal) → verdict_of v ≡ test → v ≡ Err q
    → Walked (if_passed test (counts_of t) o x) (Err q) t o
test_stops test v t o x q h e = record { ends = rw (← h, e, (refused_is q).2) }

test_passes : (test : Answer) (v : Result ⊤ Refusal) (c : Counts) (o : List ℕ) (x : Run) → verdict_of v ≡ test → v ≡ Ok tt
    → if_passed test c o x ≡ x
test_passes test v c o x h e = rw (← h, e)

-- The same walk, put otherwise.
walked_as : {x y : Run} {v : Result ⊤ Refusal} {t : Tally} {o : List ℕ} → saturated_run x ≡ saturated_run y → Walked x v t o → Walked y v t o
walked_as e walked = record { ends = walked.ends ∙ e }

then_same : (x : Run) (next : Counts → List ℕ → Run) → ((c : Counts) (o : List ℕ) → next c o ≡ fine c o) → and_then x next ≡ x
then_same (fine c o) next h = h c o
then_same (stopped number values c o) next h = refl

-- The first m + 1 of some children, the record between, and the k + 1 others.
module _ (file : List ℕ) (g : Geometry) (tests : Tests) (d a n : ℕ) (node : ℕ → ℕ → Counts → List ℕ → Run) where
  abbrev run : ℕ → ℕ → Counts → List ℕ → Run
  run = children_run file g tests d a n node

  abbrev between : ℕ → Counts → List ℕ → Run
  between = own_record_run file g a

  children_split : (m k i : ℕ) (c : Counts) (o : List ℕ)
      → run (m + suc k) i c o ≡ and_then (and_then (run m i c o) (between (i + m))) (run k (i + m + 1))
  unfolding children_run
  children_split zero k i c o = rw (zero-add, add-zero, then_then)
  children_split (suc m) k i c o =
      let e : i + 1 + m ≡ i + suc m = omega arith in
      rw (suc-add, ← e, then_then, then_then)
      (ap (and_then (child_run file g tests d a n node i c o))
      (fun_ext (λ c1. fun_ext (λ o1.
      ap (and_then (between i c1 o1))
      (fun_ext (λ c2. fun_ext (λ o2. children_split m k (i + 1) c2 o2 ∙ then_then (run m (i + 1) c2 o2) (between (i + 1 + m)) (run k (i + 1 + m + 1)))))
      ∙ sym (then_then (between i c1 o1) (run m (i + 1)) _)))))

-- Depth and records left, as one number: a node has at most 65,535 records, and a half of them is less than all.
abbrev pub falling : ℕ → ℕ → ℕ
falling depth left = depth * 65537 + left

-- The walk by any tests; what the code tells of a test is its verdict.
module _ (file : List ℕ) (g : Geometry) (tests : Tests) where
  -- m + 1 children from child i on, with the records between them, of the internal node at a with n records whose children have level d.
  abbrev children : (d a n m i : ℕ) → Step
  children d a n = children_run file g tests d a n (node_run file g tests d)

  -- A leaf.
  module _ (a n : ℕ) (t : Tally) (o : List ℕ) (v : Result ⊤ Refusal) (tested : verdict_of v ≡ tests.leaf a n) where
    pub leaf_stops : (q : Refusal) → v ≡ Err q → Walked (node_run file g tests 0 a n (counts_of t) o) (Err q) t o
    unfolding node_run leaf_run
    leaf_stops q = test_stops _ v t o _ q tested

    pub leaf_reads : v ≡ Ok tt → (x : ℕ) → x ≡ saturated (t.leaves + 1) → (v1 : Result ⊤ Refusal) (t1 : Tally) (o1 : List ℕ)
        → Walked
        (records_put file g n (a + 6) (counts_of (record { records = t.records; leaves = x; internals = t.internals; internal_records = t.internal_records })) o)
        v1 t1 o1
        → Walked (node_run file g tests 0 a n (counts_of t) o) v1 t1 o1
    unfolding node_run leaf_run
    leaf_reads e x more v1 t1 o1 =
        walked_as
        (from_saturated (puts_alike file g n (a + 6)) (with_leaf (counts_of t)) _ o (rw (more, saturated_saturated))
        ∙ ap saturated_run (sym (test_passes _ v (counts_of t) o _ tested e)))

  -- An internal node of level d.
  module _ (d a n : ℕ) (t : Tally) (o : List ℕ) (v : Result ⊤ Refusal) (above : d ≡ 0 → ⊥) (tested : verdict_of v ≡ tests.internal (d - 1) a n) where
    internal_is : node_run file g tests d a n (counts_of t) o
        ≡ if_passed (verdict_of v) (counts_of t) o (children (d - 1) a n n 0 (with_internal (counts_of t)) o)
    unfolding node_run
    internal_is =
        let f : d ≡ suc (d - 1) = omega arith in ap (λ k. node_run file g tests k a n (counts_of t) o) f ∙ rw (← tested)

    pub node_stops : (q : Refusal) → v ≡ Err q → Walked (node_run file g tests d a n (counts_of t) o) (Err q) t o
    node_stops q e = walked_as (ap saturated_run (sym internal_is)) (test_stops _ v t o _ q refl e)

    pub node_reads : (x : Internal) → x ≡ internal_at g (d - 1) (record { address = a; records = n }) → v ≡ Ok tt → (y : ℕ) → y ≡ saturated (t.internals + 1)
        → (v1 : Result ⊤ Refusal) (t1 : Tally) (o1 : List ℕ)
        → Walked
        (children (d - 1) x.node.address x.node.records (n - 0) 0
        (counts_of (record { records = t.records; leaves = t.leaves; internals = y; internal_records = t.internal_records })) o)
        v1 t1 o1
        → Walked (node_run file g tests d a n (counts_of t) o) v1 t1 o1
    node_reads x is e y more v1 t1 o1 walked =
        let all : n - 0 ≡ n = omega arith in
        walked_as
        (from_saturated (children_alike file g tests (d - 1) a n n 0) (with_internal (counts_of t)) _ o (rw (more, saturated_saturated))
        ∙ ap saturated_run (sym (internal_is ∙ test_passes _ v (counts_of t) o _ refl e)))
        (rw (is, all) at walked)

  -- Children of an internal node, from child i on.
  module _ (d a n i : ℕ) (c : Counts) (o : List ℕ) where
    -- One, and the test after it: by its pointer's place and the records that it put out.
    module _ (k : ℕ) (one : i ≡ k) (child : Node) (pointer : ChildAt file g d a n i child) (v : Result ⊤ Refusal) (t1 : Tally) (o1 : List ℕ)
        (walked : Walked (node_run file g tests d child.address child.records c o) v t1 o1) where
      abbrev after_child : Step
      after_child c1 o1 = if_passed (tests.child d (pointer_to g d a n i) (c1.records - c.records)) c1 o1 (fine c1 o1)

      child_is : and_then (node_run file g tests d child.address child.records c o) after_child ≡ children d a n (k - i) i c o
      unfolding children_run child_run
      child_is = let e : k - i ≡ 0 = omega arith in rw (pointer.address, pointer.records, e)

      pub child_stops : (q : Refusal) → v ≡ Err q → Walked (children d a n (k - i) i c o) v t1 o1
      child_stops q e = walked_as (ap saturated_run child_is) (hand_up (after_alike tests d _ _) walked q e)

      pub child_tested : v ≡ Ok tt → (w : Result ⊤ Refusal)
          → verdict_of w ≡ tests.child d (pointer_to g d a n i) (t1.records - c.records) → Walked (children d a n (k - i) i c o) w t1 o1
      child_tested e w code =
          record { ends = rw code (sym (go_on (after_alike tests d _ _) walked e)) ∙ ap saturated_run child_is }

    -- More: those from child i to child j, record j, and those up to child k.
    module _ (j k : ℕ) (low : i ≤ j) (high : j < k) where
      abbrev first_half : Run
      first_half = children d a n (j - i) i c o

      abbrev middle : Step
      middle = own_record_run file g a j

      abbrev second_half : Step
      second_half = children d a n (k - (j + 1)) (j + 1)

      halves : and_then (and_then first_half middle) second_half ≡ children d a n (k - i) i c o
      halves =
          let e : k - i ≡ j - i + suc (k - (j + 1)) = omega arith in
          let f : i + (j - i) ≡ j = omega arith in
          rw f at (sym (children_split file g tests d a n (node_run file g tests d) (j - i) (k - (j + 1)) i c o)) ∙ ap (λ m. children d a n m i c o) (sym e)

      middle_alike : Alike middle
      middle_alike = own_record_alike file g a j

      half_alike : Alike second_half
      half_alike = children_alike file g tests d a n (k - (j + 1)) (j + 1)

      module _ (v : Result ⊤ Refusal) (t1 : Tally) (o1 : List ℕ) (first : Walked first_half v t1 o1) where
        pub first_stops : (q : Refusal) → v ≡ Err q → Walked (children d a n (k - i) i c o) v t1 o1
        first_stops q e = walked_as (ap saturated_run halves) (hand_up half_alike (hand_up middle_alike first q e) q e)

        -- After the first half, the record in the middle.
        module _ (read : v ≡ Ok tt) (w : Result ⊤ Refusal) (t2 : Tally) (o2 : List ℕ) (put : Walked (middle (counts_of t1) o1) w t2 o2) where
          two : Walked (and_then first_half middle) w t2 o2
          two = walked_as (sym (go_on middle_alike first read)) put

          pub record_stops : (q : Refusal) → w ≡ Err q → Walked (children d a n (k - i) i c o) w t2 o2
          record_stops q e = walked_as (ap saturated_run halves) (hand_up half_alike two q e)

          -- And the second half.
          pub second_reads : w ≡ Ok tt → (u : Result ⊤ Refusal) (t3 : Tally) (o3 : List ℕ) → Walked (second_half (counts_of t2) o2) u t3 o3
              → Walked (children d a n (k - i) i c o) u t3 o3
          second_reads e u t3 o3 = walked_as (sym (go_on half_alike two e) ∙ ap saturated_run halves)

-- Record i of the internal node at a: one record put out, and counted.
module _ (file : List ℕ) (g : Geometry) (a i : ℕ) (t : Tally) (o : List ℕ) (v : Result ⊤ Refusal) (t1 : Tally) (o1 : List ℕ)
    (put : Walked (records_put file g 1 (record_place g a i) (counts_of t) o) v t1 o1) where
  own_record_is : and_then (records_put file g 1 (record_place g a i) (counts_of t) o) (λ c o. fine (with_internal_record c) o)
      ≡ own_record_run file g a i (counts_of t) o
  unfolding own_record_run records_put
  own_record_is =
      ap (λ y. and_then y (λ c o. fine (with_internal_record c) o))
      (then_same (put_record file g (record_place g a i) (counts_of t) o) _ (λ c o. refl))

  pub own_record_stops : (q : Refusal) → v ≡ Err q → Walked (own_record_run file g a i (counts_of t) o) (Err q) t1 o1
  own_record_stops q e = rw e at (walked_as (ap saturated_run own_record_is) (hand_up count_alike put q e))

  pub own_record_puts : v ≡ Ok tt → (x : ℕ) → x ≡ saturated (t1.internal_records + 1)
      → Walked (own_record_run file g a i (counts_of t) o) (Ok tt) (record { records = t1.records; leaves = t1.leaves; internals = t1.internals; internal_records = x }) o1
  own_record_puts e x more =
      let held : saturated x ≡ saturated (t1.internal_records + 1) = rw (more, saturated_saturated) in
      record { ends = rw held (sym (sym (ap saturated_run own_record_is) ∙ go_on count_alike put e)) }
