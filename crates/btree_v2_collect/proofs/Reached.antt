-- The leaves that a walk reaches, and that one of them that is refused stops it. The walk's tests are any.
use mathlib.Core.Path.{◌≡◌, sym}
use mathlib.Core.List.{List}
use Prim.Native.Nat.{ℕ, zero, suc, ◌+◌}
use Rattle.refusal.specs.Answer.{accepted, refused}
use Rattle.node_info.specs.declared.Geometry.{Geometry}
use Rattle.btree_v2_collect.specs.Walk.{Counts, Run, fine, stopped, and_then, with_internal, Tests, leaf_run, child_run, own_record_run, children_run, node_run, pointer_to, address_in, records_in}
use Rattle.btree_v2_collect.proofs.Outcomes.{then_then}

-- Where a walk stands: before the node of level d at a with n records; or before child i, with so many after it, of the internal node at a
-- with n records whose children have level d.
pub data Place : Type 0 where
  node : (d a n : ℕ) → Place
  children : (d a n left i : ℕ) → Place

module _ (file : List ℕ) (g : Geometry) (tests : Tests) where
  -- The walk from there on.
  abbrev pub run_from : Place → Counts → List ℕ → Run
  run_from (node d a n) = node_run file g tests d a n
  run_from (children d a n left i) = children_run file g tests d a n (node_run file g tests d) left i

  -- Child i of an internal node, and that child with the record after it.
  abbrev pub child : (d a n i : ℕ) → Place
  child d a n i = let p = pointer_to g d a n i in node d (address_in file g p) (records_in file g p)

  abbrev pub child_and_record : (d a n i : ℕ) → Counts → List ℕ → Run
  child_and_record d a n i c o = and_then (child_run file g tests d a n (node_run file g tests d) i c o) (own_record_run file g a i)

  pub run_next : (d a n left i : ℕ) (c : Counts) (o : List ℕ)
      → run_from (children d a n (suc left) i) c o ≡ and_then (child_and_record d a n i c o) (run_from (children d a n left (i + 1)))
  unfolding children_run
  run_next d a n left i c o =
      sym (then_then (child_run file g tests d a n (node_run file g tests d) i c o) (own_record_run file g a i) (run_from (children d a n left (i + 1))))

  -- The walk from a place on, with these counts and this output, reaches the leaf at b with m records, with the counts c1 and the output o1.
  pub data Reaches (b m : ℕ) (c1 : Counts) (o1 : List ℕ) : Place → Counts → List ℕ → Type 0 where
    here : Reaches b m c1 o1 (node zero b m) c1 o1
    below : {d a n : ℕ} {c : Counts} {o : List ℕ} {figures : List ℕ} → tests.internal d a n ≡ accepted figures
        → Reaches b m c1 o1 (children d a n n 0) (with_internal c) o → Reaches b m c1 o1 (node (suc d) a n) c o
    in_child : {d a n left i : ℕ} {c : Counts} {o : List ℕ}
        → Reaches b m c1 o1 (child d a n i) c o → Reaches b m c1 o1 (children d a n left i) c o
    later : {d a n left i : ℕ} {c c2 : Counts} {o o2 : List ℕ} → child_and_record d a n i c o ≡ fine c2 o2
        → Reaches b m c1 o1 (children d a n left (i + 1)) c2 o2 → Reaches b m c1 o1 (children d a n (suc left) i) c o

  -- A leaf that is reached and refused stops the walk, with the counts and the output of that moment.
  pub reached_stops : {b m : ℕ} {c1 : Counts} {o1 : List ℕ} {number : ℕ} {values : List ℕ} → tests.leaf b m ≡ refused number values
      → {p : Place} {c : Counts} {o : List ℕ} → Reaches b m c1 o1 p c o → run_from p c o ≡ stopped number values c1 o1
  unfolding node_run leaf_run children_run child_run
  reached_stops e here = rw e
  reached_stops e (below t r) = rw t (reached_stops e r)
  reached_stops e (in_child {left = zero} r) = rw (reached_stops e r)
  reached_stops e (in_child {left = suc left} r) = rw (reached_stops e r)
  reached_stops e (later {left = left} {c = c} {o = o} t r) = rw (run_next _ _ _ left _ c o, t) (reached_stops e r)
