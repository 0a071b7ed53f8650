-- An accepted walk: the tree that the file holds by its pointers is sound, and the walk has put out its records and counted its nodes.
use mathlib.Core.Path.{◌≡◌, refl, sym, ap, ◌∙◌}
use mathlib.Core.List.{List, []}
use Prim.Native.Nat.{ℕ, zero, suc, ◌+◌, ◌-◌, ◌*◌, ◌≤◌}
use native.Mathlib.Nat.{add-zero}
use native.Mathlib.Omega.{arith}
use lib.ListN.{length}
use Rattle.numbers.specs.Places.{stored}
use Rattle.refusal.specs.Answer.{Answer, accepted, refused}
use Rattle.plan.specs.Tree.{Kids, Tree, sum_kids, between, count, size}
use Rattle.node_info.specs.declared.Geometry.{Geometry}
use Rattle.btree_v2_collect.specs.Walk.{Counts, Run, fine, stopped, and_then, if_passed, with_record, with_leaf, with_internal, with_internal_record, Tests, put_record, records_put, leaf_run, own_record_run, node_run, pointer_to}
use Rattle.btree_v2_collect.specs.InFile.{at_child, kids_at, tree_at, tree_bytes, ChildSound, ChildrenSound, Sound}
use Rattle.btree_v2_collect.proofs.Fronts.{node_fronted}
use Rattle.btree_v2_collect.proofs.Outcomes.{put_cases}
use Rattle.btree_v2_collect.proofs.Puts.{sum}
use Rattle.btree_v2_collect.proofs.Sound.{tree_tally, puts_node}
use Rattle.btree_v2_collect.proofs.Walking.{Step, Walking, records_walked, node_walked}

-- The tree has the root's count.
module _ (file : List ℕ) (g : Geometry) where
  pub between_kids : (d a n : ℕ) (node : ℕ → ℕ → Tree d) (m i : ℕ) → between (kids_at file g d a n node m i) ≡ m
  unfolding kids_at between
  between_kids d a n node zero i = refl
  between_kids d a n node (suc m) i = ap suc (between_kids d a n node m (i + 1))

  pub count_tree : (d a n : ℕ) → count d (tree_at file g d a n) ≡ n
  unfolding tree_at count
  count_tree zero a n = refl
  count_tree (suc d) a n = between_kids d a n (tree_at file g d) n 0

-- Every child of a sound node is sound.
module _ (file : List ℕ) (g : Geometry) (tests : Tests) (d a n : ℕ) where
  pub child_sound : (m i : ℕ) → ChildrenSound file g tests d a n (Sound file g tests d) (kids_at file g d a n (tree_at file g d) m i) i
      → (k : ℕ) → k ≤ m → ChildSound file g tests d a n (Sound file g tests d) (at_child file g (tree_at file g d) d a n (i + k)) (i + k)
  unfolding kids_at
  child_sound zero i h k l = let e : i + k ≡ i = omega arith in rw e h
  child_sound (suc m) i h zero l = rw add-zero h.0
  child_sound (suc m) i h (suc k) l = let e : i + suc k ≡ i + 1 + k = omega arith in rw e (child_sound m (i + 1) h.1 k (omega arith))

-- A test and a step after it, and two steps, that are fine: the test passed, and the first step was fine.
record Passed (x : Answer) (r : Run) (c : Counts) (o : List ℕ) : Type 0 where
  figures : List ℕ
  passes : x ≡ accepted figures
  runs : r ≡ fine c o

passed : (x : Answer) (c1 : Counts) (o1 : List ℕ) (r : Run) (c : Counts) (o : List ℕ) → if_passed x c1 o1 r ≡ fine c o → Passed x r c o
passed (accepted figures) c1 o1 r c o e = record { figures = figures; passes = refl; runs = e }
passed (refused number values) c1 o1 r c o e = record { figures = []; passes = cc; runs = cc }

record Both (r : Run) (next : Step) (c : Counts) (o : List ℕ) : Type 0 where
  counts : Counts
  output : List ℕ
  first : r ≡ fine counts output
  second : next counts output ≡ fine c o

both : (r : Run) (next : Step) (c : Counts) (o : List ℕ) → and_then r next ≡ fine c o → Both r next c o
both (fine c1 o1) next c o e = record { counts = c1; output = o1; first = refl; second = e }
both (stopped number values c1 o1) next c o e = record { counts = c1; output = o1; first = cc; second = cc }

-- What holds where a step is accepted; and the step puts k records out there.
abbrev Where : Step → (Counts → Counts → Type 0) → Type 0
Where f P = (c : Counts) (o : List ℕ) (c1 : Counts) (o1 : List ℕ) → f c o ≡ fine c1 o1 → P c c1

abbrev Adds : ℕ → Step → Type 0
Adds k f = Where f (λ c c1. c1.records ≡ c.records + k)

same_records : (c c1 : Counts) (o o1 : List ℕ) → fine c o ≡ fine c1 o1 → c1.records ≡ c.records
same_records c c1 o o1 e = let f : c ≡ c1 = cc in rw f

module _ (file : List ℕ) (g : Geometry) where
  put_adds : (p : ℕ) → Adds 1 (put_record file g p)
  put_adds p c o c1 o1 =
      put_cases file g p c o (λ r. r ≡ fine c1 o1 → c1.records ≡ c.records + 1) (λ h. same_records (with_record c) c1 _ o1) (λ e. cc)

  puts_add : (n p : ℕ) → Adds n (records_put file g n p)
  puts_add =
      records_walked file g {P = λ n p. Adds n}
      (record {
        none = λ c o c1 o1 e. omega (arith, same_records c c1 o o1 e);
        more = λ h c o c1 o1 e.
            let b = both _ _ c1 o1 e in omega (arith, put_adds _ c o _ _ b.first, h _ _ c1 o1 b.second);
      })

-- Tests that accept with no figures, and nodes only where their records are there.
pub record RecordsThere (file : List ℕ) (g : Geometry) (tests : Tests) : Type 0 where
  pub leaf : (a n : ℕ) (figures : List ℕ) → tests.leaf a n ≡ accepted figures → (figures ≡ []) × (a + 6 + n * g.record_size ≤ length file)
  pub internal : (d a n : ℕ) (figures : List ℕ) → tests.internal d a n ≡ accepted figures
      → (figures ≡ []) × (a + 6 + n * g.record_size ≤ length file)
  pub child : (d p m : ℕ) (figures : List ℕ) → tests.child d p m ≡ accepted figures → figures ≡ []

module _ (file : List ℕ) (g : Geometry) (tests : Tests) (there : RecordsThere file g tests) where
  -- An accepted step over a node, and over child i and m more: what it read is sound, and it put out the records.
  record NodeRead (d a n : ℕ) (c c1 : Counts) : Type 0 where
    sound : Sound file g tests d (tree_at file g d a n) a
    more : c1.records ≡ c.records + size d (tree_at file g d a n)

  abbrev kids : (d a n m i : ℕ) → Kids (Tree d)
  kids d a n m i = kids_at file g d a n (tree_at file g d) m i

  record ChildrenRead (d a n m i : ℕ) (c c1 : Counts) : Type 0 where
    sound : ChildrenSound file g tests d a n (Sound file g tests d) (kids d a n m i) i
    more : c1.records ≡ c.records + (sum_kids (size d) (kids d a n m i) + m)

  reads : Walking file g tests (λ d a n f. Where f (NodeRead d a n)) (λ d a n m i f. Where f (ChildrenRead d a n m i)) (λ d a n i. Adds 1)
  unfolding leaf_run own_record_run tree_at kids_at size sum_kids
  reads =
      record {
        leaf = λ a n c o c1 o1 e.
            let p = passed (tests.leaf a n) c o _ c1 o1 e in
            let q = there.leaf a n p.figures p.passes in
            record {
              sound = record { passes = p.passes ∙ ap accepted q.0; there = q.1 };
              more = puts_add file g n (a + 6) (with_leaf c) o c1 o1 p.runs;
            };
        internal = λ d a n h c o c1 o1 e.
            let p = passed (tests.internal d a n) c o _ c1 o1 e in
            let q = there.internal d a n p.figures p.passes in
            let r = h (with_internal c) o c1 o1 p.runs in
            let b = between_kids file g d a n (tree_at file g d) n 0 in
            record {
              sound = rw b (record { passes = p.passes ∙ ap accepted q.0; there = q.1 }, r.sound);
              more = rw b r.more;
            };
        child = λ d a n i h c o c1 o1 e.
            let b = both _ _ c1 o1 e in
            let r = h c o b.counts b.output b.first in
            let place = pointer_to g d a n i in
            let p = passed (tests.child d place (b.counts.records - c.records)) _ _ _ c1 o1 b.second in
            let q = there.child d place (b.counts.records - c.records) p.figures p.passes in
            let m : b.counts.records - c.records ≡ at_child file g (λ b k. size d (tree_at file g d b k)) d a n i = omega (arith, r.more) in
            record {
              sound = record { records = sym (count_tree file g d _ _); node = r.sound; after = rw m at (p.passes ∙ ap accepted q) };
              more = omega (arith, same_records b.counts c1 b.output o1 p.runs, r.more);
            };
        own_record = λ d a n i c o c1 o1 e.
            let b = both _ _ c1 o1 e in
            omega (arith, put_adds file g _ c o _ _ b.first, same_records (with_internal_record b.counts) c1 b.output o1 b.second);
        more = λ f g h c o c1 o1 e.
            let b = both _ _ c1 o1 e in
            let k = both _ _ c1 o1 b.second in
            let one = f c o b.counts b.output b.first in
            let others = h k.counts k.output c1 o1 k.second in
            record {
              sound = (one.sound, others.sound);
              more = omega (arith, one.more, g _ _ _ _ k.first, others.more);
            };
      }

  -- What an accepted walk from the counts c and the output o on has done.
  pub record Done (d a n : ℕ) (c : Counts) (o : List ℕ) (c1 : Counts) (o1 : List ℕ) : Type 0 where
    pub sound : Sound file g tests d (tree_at file g d a n) a
    pub room : (c.records + size d (tree_at file g d a n)) * g.record_size ≤ length o
    pub run : fine c1 o1 ≡ fine (sum c (tree_tally d (tree_at file g d a n))) (stored o (c.records * g.record_size) (tree_bytes file g d (tree_at file g d a n) a))

  pub walk_done : (d a n : ℕ) (c : Counts) (o : List ℕ) (c1 : Counts) (o1 : List ℕ) → c.records * g.record_size ≤ length o
      → node_run file g tests d a n c o ≡ fine c1 o1 → Done d a n c o c1 o1
  walk_done d a n c o c1 o1 h e =
      let read = node_walked file g tests reads d a n c o c1 o1 e in
      let f = rw e at ((node_fronted file g tests d a n c o).room h) in
      let room : (c.records + size d (tree_at file g d a n)) * g.record_size ≤ length o = rw read.more at f in
      let p = (puts_node file g tests d (tree_at file g d a n) a read.sound).runs c o room in
      record { sound = read.sound; room = room; run = sym e ∙ rw (count_tree file g d a n) at p }
