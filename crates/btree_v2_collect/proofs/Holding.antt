-- Counts that are saturated on the way give what exact counts give, saturated at the end: for every source and tests, and every step of the walk.
use mathlib.Core.Path.{◌≡◌, sym, ap, ◌∙◌}
use mathlib.Core.Bool.{Bool, true, false}
use mathlib.Core.List.{List, [], ◌∷◌}
use Prim.Native.Nat.{ℕ, ◌+◌, ◌-◌, ◌*◌}
use native.Mathlib.Omega.{arith}
use lib.Dec.{leb}
use lib.ListN.{length}
use Rattle.numbers.specs.Numbers.{saturated, part}
use Rattle.numbers.specs.Places.{stored}
use Rattle.numbers.proofs.Numbers.{saturated_add}
use Rattle.refusal.specs.Answer.{Answer, accepted, refused, or_else}
use Rattle.btree_v2_collect.specs.Walk.{Counts, Run, fine, stopped, and_then, if_passed, with_record, with_leaf, with_internal, with_internal_record, Tests, put_record, records_put, leaf_run, own_record_run, children_run, node_run}
use Rattle.node_info.specs.declared.Geometry.{Geometry}
use Rattle.btree_v2_collect.specs.Collecting.{saturated_counts, saturated_run}
use Rattle.btree_v2_collect.proofs.Walking.{Step, and_step, Walking, records_walked, children_walked}

pub saturated_saturated : (x : ℕ) → saturated (saturated x) ≡ saturated x
saturated_saturated x = omega arith

counts_twice : (c : Counts) → saturated_counts (saturated_counts c) ≡ saturated_counts c
counts_twice c = simp saturated_saturated

-- A step that goes by the records alone and else only counts on.
pub record Alike (f : Step) : Type 0 where
  pub same : (c : Counts) (o : List ℕ) → saturated_run (f (saturated_counts c) o) ≡ saturated_run (f c o)

module _ {f : Step} (h : Alike f) where
  -- So from counts that are the same once saturated it ends alike.
  pub from_saturated : (c c1 : Counts) (o : List ℕ) → saturated_counts c1 ≡ saturated_counts c → saturated_run (f c1 o) ≡ saturated_run (f c o)
  from_saturated c c1 o e = sym (h.same c1 o) ∙ ap (λ x. saturated_run (f x o)) e ∙ h.same c o

  -- After a run, after counting, and after a test.
  pub alike_after : (r : Run) → saturated_run (and_then (saturated_run r) f) ≡ saturated_run (and_then r f)
  alike_after (fine c o) = h.same c o
  alike_after (stopped number values c o) = rw counts_twice

  alike_count : (one : Counts → Counts) → ((c : Counts) → saturated_counts (one (saturated_counts c)) ≡ saturated_counts (one c))
      → Alike (λ c o. f (one c) o)
  alike_count one e = record { same = λ c o. from_saturated (one c) (one (saturated_counts c)) o (e c) }

  alike_if : (x : Answer) → Alike (λ c o. if_passed x c o (f c o))
  alike_if (accepted figures) = h
  alike_if (refused number values) = record { same = λ c o. rw counts_twice }

-- After a step; what follows it may go by the records that were there before it.
alike_with : {f : Step} {g : ℕ → Step} → Alike f → ((k : ℕ) → Alike (g k)) → Alike (λ c o. and_then (f c o) (g c.records))
alike_with {f} {g} hf hg =
    record {
      same = λ c o.
          let after = alike_after (hg c.records) in
          sym (after (f (saturated_counts c) o)) ∙ ap (λ r. saturated_run (and_then r (g c.records))) (hf.same c o) ∙ after (f c o);
    }

alike_then : {f g : Step} → Alike f → Alike g → Alike (and_step f g)
alike_then hf hg = alike_with hf (λ k. hg)

-- The steps.
fine_alike : Alike fine
fine_alike = record { same = λ c o. rw counts_twice }

pub count_alike : Alike (λ c o. fine (with_internal_record c) o)
count_alike = alike_count fine_alike with_internal_record (λ c. simp (saturated_saturated, saturated_add))

-- The test after a child, where k records were there before it.
pub after_alike : (tests : Tests) (d p k : ℕ) → Alike (λ c o. if_passed (tests.child d p (c.records - k)) c o (fine c o))
after_alike tests d p k = record { same = λ c o. (alike_if fine_alike (tests.child d p (c.records - k))).same c o }

module _ (file : List ℕ) (g : Geometry) where
  put_by : (t : Bool) (p : ℕ)
      → Alike (λ c o. or_else t (stopped 15 (length o ∷ []) c o) (fine (with_record c) (stored o (c.records * g.record_size) (part file p g.record_size))))
  put_by true p = record { same = λ c o. simp saturated_saturated }
  put_by false p = record { same = λ c o. simp saturated_saturated }

  put_alike : (p : ℕ) → Alike (put_record file g p)
  unfolding put_record
  put_alike p = record { same = λ c o. (put_by (leb ((c.records + 1) * g.record_size) (length o)) p).same c o }

  pub puts_alike : (n p : ℕ) → Alike (records_put file g n p)
  puts_alike =
      records_walked file g {P = λ n p. Alike} (record { none = fine_alike; more = λ h. alike_then (put_alike _) h })

  pub own_record_alike : (a i : ℕ) → Alike (own_record_run file g a i)
  unfolding own_record_run
  own_record_alike a i = alike_then (put_alike _) count_alike

  module _ (tests : Tests) where
    alike : Walking file g tests (λ d a n. Alike) (λ d a n m i. Alike) (λ d a n i. Alike)
    unfolding leaf_run
    alike =
        record {
          leaf = λ a n. alike_if (alike_count (puts_alike n (a + 6)) with_leaf (λ c. simp (saturated_saturated, saturated_add))) (tests.leaf a n);
          internal = λ d a n h. alike_if (alike_count h with_internal (λ c. simp (saturated_saturated, saturated_add))) (tests.internal d a n);
          child = λ d a n i h. alike_with h (after_alike tests d _);
          own_record = λ d a n i. own_record_alike a i;
          more = λ f g h. alike_then f (alike_then g h);
        }

    pub children_alike : (d a n m i : ℕ) → Alike (children_run file g tests d a n (node_run file g tests d) m i)
    children_alike = children_walked file g tests alike
