-- The walk over a sound tree puts out the tree's records and counts its nodes.
use mathlib.Core.Path.{◌≡◌, refl}
use mathlib.Core.List.{List, [], append-nil}
use Prim.Native.Nat.{ℕ, zero, suc, ◌+◌, ◌*◌, ◌≤◌}
use native.Mathlib.Nat.{add_comm, mul-le-mul_right, add-zero, zero-add, add-sub_cancel_left}
use native.Mathlib.Omega.{arith}
use lib.ListN.{length}
use Rattle.numbers.specs.Numbers.{part}
use Rattle.refusal.specs.Answer.{Answer, accepted}
use Rattle.plan.specs.Tree.{Kids, last, more, Tree, sum_kids, between, count, size, leaves, internals, internal_records}
use Rattle.btree_v2_collect.specs.Walk.{Counts, Run, if_passed, with_leaf, with_internal, with_internal_record, Tests, leaf_run, child_run, own_record_run, children_run, node_run, pointer_to, address_in}
use Rattle.node_info.specs.declared.Geometry.{Geometry}
use Rattle.btree_v2_collect.specs.InFile.{children_bytes, tree_bytes, ChildSound, ChildrenSound, Sound}
use Rattle.btree_v2_collect.proofs.Puts.{tally, sum, Puts, puts_then, puts_none, puts_record, puts_records}

-- What the walk counts of a tree.
abbrev pub tree_tally : (d : ℕ) → Tree d → Counts
tree_tally d t = tally (size d t) (leaves d t) (internals d t) (internal_records d t)

-- Of children, and the records between them.
abbrev children_tally : (d : ℕ) → Kids (Tree d) → Counts
children_tally d ts =
    tally (sum_kids (size d) ts + between ts) (sum_kids (leaves d) ts) (sum_kids (internals d) ts) (sum_kids (internal_records d) ts + between ts)

tally_last : (d : ℕ) (t : Tree d) → tree_tally d t ≡ children_tally d (last t)
unfolding sum_kids between
tally_last d t = simp add-zero

pub between_one : (x y k : ℕ) → x + (1 + (y + k)) ≡ x + y + suc k
between_one x y k = omega arith

tally_more : (d : ℕ) (t : Tree d) (ts : Kids (Tree d))
    → sum (tree_tally d t) (sum (tally 1 0 0 1) (children_tally d ts)) ≡ children_tally d (more t ts)
unfolding sum_kids between
tally_more d t ts = simp (between_one, zero-add)

module _ (file : List ℕ) (g : Geometry) (tests : Tests) where
  -- A step after a test.
  puts_if : {x : Answer} {f : Counts → List ℕ → Run} {b : List ℕ} {t : Counts} → x ≡ accepted [] → Puts g.record_size f b t
      → Puts g.record_size (λ c o. if_passed x c o (f c o)) b t
  puts_if e p = rw e p

  module _ (d a n : ℕ) where
    puts_child : (t : Tree d) (i : ℕ) (b : List ℕ) → ChildSound file g tests d a n (Sound file g tests d) t i
        → Puts g.record_size (node_run file g tests d (address_in file g (pointer_to g d a n i)) (count d t)) b (tree_tally d t)
        → Puts g.record_size (child_run file g tests d a n (node_run file g tests d) i) b (tree_tally d t)
    unfolding child_run
    puts_child t i b h p =
        record {
          whole = p.whole;
          runs = λ c o l. rw (h.records, p.runs c o l, add-sub_cancel_left, h.after);
        }

    puts_own_record : (i : ℕ) → a + 6 + i * g.record_size + g.record_size ≤ length file
        → Puts g.record_size (own_record_run file g a i) (part file (a + 6 + i * g.record_size) g.record_size) (tally 1 0 0 1)
    unfolding own_record_run
    puts_own_record i h =
        let p = puts_then g.record_size (puts_record file g (a + 6 + i * g.record_size) h) (puts_none g.record_size with_internal_record (tally 0 0 0 1) refl (λ c. simp add-zero)) in
        rw append-nil at p

    puts_children : ((t : Tree d) (b : ℕ) → Sound file g tests d t b → Puts g.record_size (node_run file g tests d b (count d t)) (tree_bytes file g d t b) (tree_tally d t))
        → a + 6 + n * g.record_size ≤ length file
        → (ts : Kids (Tree d)) (i : ℕ) → i + between ts ≤ n → ChildrenSound file g tests d a n (Sound file g tests d) ts i
        → Puts g.record_size (children_run file g tests d a n (node_run file g tests d) (between ts) i) (children_bytes file g d a n (tree_bytes file g d) ts i) (children_tally d ts)
    unfolding children_run children_bytes between
    puts_children node there (last t) i l h = rw (← tally_last) (puts_child t i _ h (node t _ h.node))
    puts_children node there (more t ts) i l h =
        let k : i + 1 ≤ n = omega arith in
        rw (← tally_more)
        (puts_then g.record_size (puts_child t i _ h.0 (node t _ h.0.node))
        (puts_then g.record_size (puts_own_record i (omega (arith, mul-le-mul_right g.record_size k))) (puts_children node there ts (i + 1) (omega arith) h.1)))

  pub puts_node : (d : ℕ) (t : Tree d) (a : ℕ) → Sound file g tests d t a
      → Puts g.record_size (node_run file g tests d a (count d t)) (tree_bytes file g d t a) (tree_tally d t)
  unfolding node_run leaf_run tree_bytes count size leaves internals internal_records
  puts_node zero n a h =
      let p = puts_then g.record_size (puts_none g.record_size with_leaf (tally 0 1 0 0) refl (λ c. simp add-zero)) (puts_records file g n (a + 6) h.there) in
      puts_if h.passes (simp zero-add at p)
  puts_node (suc d) ts a h =
      let p = puts_then g.record_size (puts_none g.record_size with_internal (tally 0 0 1 0) refl (λ c. simp add-zero))
      (puts_children d a (between ts) (puts_node d) h.0.there ts 0 (omega arith) h.1) in
      puts_if h.0.passes (simp (zero-add, add_comm 1) at p)
