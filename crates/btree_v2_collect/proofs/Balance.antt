-- In every accepted walk, leaves are one more than records from internal nodes.
use mathlib.Core.Path.{◌≡◌, refl}
use mathlib.Core.List.{List}
use Prim.Native.Nat.{ℕ, ◌+◌}
use native.Mathlib.Omega.{arith}
use mathlib.Core.Bool.{false}
use Rattle.refusal.specs.Answer.{Answer, accepted, refused}
use Rattle.read_checks.specs.Tests.{no_records}
use Rattle.btree_v2_collect.specs.Walk.{Counts, Run, fine, stopped, and_then, if_passed, no_counts, with_record, with_leaf, with_internal, with_internal_record, Tests, put_record, records_put, leaf_run, own_record_run, node_run}
use Rattle.node_info.specs.declared.Geometry.{Geometry}
use Rattle.btree_v2_header.specs.declared.BTreeV2Header.{BTreeV2Header}
use Rattle.btree_v2_collect.specs.Collect.{collect_tests, collected}
use Rattle.btree_v2_collect.proofs.Outcomes.{put_cases, collected_fine}
use Rattle.btree_v2_collect.proofs.Walking.{Step, records_walked, node_walked}

-- Where a walk from the counts c on is accepted, it counts x more leaves and y more records from internal nodes, or as many more of both.
record Balanced (x y : ℕ) (c : Counts) (r : Run) : Type 0 where
  balance : (c1 : Counts) (o1 : List ℕ) → r ≡ fine c1 o1 → c1.leaves + c.internal_records + y ≡ c1.internal_records + c.leaves + x

stops : {x y : ℕ} {c : Counts} {number : ℕ} {values : List ℕ} {c1 : Counts} {o1 : List ℕ} → Balanced x y c (stopped number values c1 o1)
stops {number} {values} {c1} {o1} = record { balance = λ c2 o2 e. let z : ◌≡◌ {A = ℕ} 0 1 = cc in absurd (omega arith) }

goes : {x y : ℕ} (c c1 : Counts) {o1 : List ℕ} → c1.leaves + c.internal_records + y ≡ c1.internal_records + c.leaves + x → Balanced x y c (fine c1 o1)
goes {x} {y} c c1 {o1} h = record { balance = λ c2 o2 e. let f : c1 ≡ c2 = cc in rw (← f) h }

both : {x y v w : ℕ} {c : Counts} {r : Run} {next : Counts → List ℕ → Run} → Balanced x y c r
    → ((c1 : Counts) (o1 : List ℕ) → Balanced v w c1 (next c1 o1)) → Balanced (x + v) (y + w) c (and_then r next)
both {r = fine c1 o1} h f =
    record { balance = λ c2 o2 e. omega (arith, h.balance c1 o1 refl, (f c1 o1).balance c2 o2 e) }
both {r = stopped number values c1 o1} h f = stops

if_balanced : {x y : ℕ} (t : Answer) {c : Counts} (c1 : Counts) (o : List ℕ) {r : Run} → Balanced x y c r
    → Balanced x y c (if_passed t c1 o r)
if_balanced (accepted figures) c1 o h = h
if_balanced (refused number values) c1 o h = stops

counted : {x y v w : ℕ} (c c1 : Counts) {r : Run} → Balanced v w c1 r → c1.leaves + c.internal_records + y + v ≡ c1.internal_records + c.leaves + x + w
    → Balanced x y c r
counted c c1 h e = record { balance = λ c2 o2 f. omega (arith, h.balance c2 o2 f) }

abbrev Balances : ℕ → ℕ → Step → Type 0
Balances x y f = (c : Counts) (o : List ℕ) → Balanced x y c (f c o)

module _ (file : List ℕ) (g : Geometry) where
  put_balanced : (p : ℕ) → Balances 0 0 (put_record file g p)
  put_balanced p c o = put_cases file g p c o (Balanced 0 0 c) (λ h. goes c (with_record c) (omega arith)) stops

  puts_balanced : (n p : ℕ) → Balances 0 0 (records_put file g n p)
  puts_balanced =
      records_walked file g {P = λ n p. Balances 0 0}
      (record { none = λ c o. goes c c (omega arith); more = λ h c o. both (put_balanced _ c o) h })

  -- A node counts one leaf more, a record between one record from an internal node.
  node_balanced : (tests : Tests) (d a n : ℕ) → Balances 1 0 (node_run file g tests d a n)
  unfolding leaf_run own_record_run
  node_balanced tests =
      node_walked file g tests {N = λ d a n. Balances 1 0} {C = λ d a n m i. Balances 1 0} {R = λ d a n i. Balances 0 1}
      (record {
        leaf = λ a n c o. if_balanced (tests.leaf a n) c o (counted c (with_leaf c) (puts_balanced n (a + 6) (with_leaf c) o) (omega arith));
        internal = λ d a n h c o. if_balanced (tests.internal d a n) c o (counted c (with_internal c) (h (with_internal c) o) (omega arith));
        child = λ d a n i h c o. both (h c o) (λ c1 o1. if_balanced (tests.child d _ _) c1 o1 (goes {x = 0} {y = 0} c1 c1 (omega arith)));
        own_record = λ d a n i c o. both (put_balanced _ c o) (λ c1 o1. goes {x = 0} {y = 1} c1 (with_internal_record c1) (omega arith));
        more = λ f g h c o. counted c c (both (f c o) (λ c1 o1. both (g c1 o1) h)) (omega arith);
      })

-- Collecting that reads a root.
pub one_leaf_more : (file : List ℕ) (h : BTreeV2Header) (out : List ℕ) (c : Counts) (o : List ℕ)
    → no_records h.total_records h.num_records_in_root ≡ false → collected file h out ≡ fine c o → c.leaves ≡ c.internal_records + 1
one_leaf_more file h out c o some e =
    let run = node_balanced file h.geometry (collect_tests file h.geometry) h.depth h.root_node_address h.num_records_in_root no_counts out in
    omega (arith, run.balance c o (collected_fine file h out some c o e))
