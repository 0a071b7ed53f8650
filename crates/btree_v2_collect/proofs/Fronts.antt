-- What every walk leaves, refused or not: a front of whole records is put out and every other byte of the output stays.
use mathlib.Core.Path.{◌≡◌, refl, ◌∙◌}
use mathlib.Core.Bool.{Bool, true, false, not}
use mathlib.Core.List.{List}
use Prim.Native.Nat.{ℕ, ◌+◌, ◌-◌, ◌*◌, ◌≤◌, zero-le}
use native.Mathlib.Nat.{le_refl, le_trans, zero-mul, mul-le-mul_right}
use native.Mathlib.Omega.{arith}
use lib.ListN.{length, take, drop, length-take}
use lib.Seq.{take-take, drop-drop}
use Rattle.numbers.specs.Numbers.{part}
use Rattle.numbers.specs.Places.{stored}
use Rattle.numbers.proofs.Lists.{length_stored, take_stored, drop_stored_end}
use Rattle.refusal.specs.Answer.{Answer, accepted, refused, or_else}
use Rattle.read_checks.specs.Tests.{no_records, root_test}
use Rattle.btree_v2_collect.specs.Walk.{Counts, Run, fine, stopped, and_then, if_passed, no_counts, with_leaf, with_internal, with_internal_record, Tests, put_record, records_put, leaf_run, own_record_run, node_run}
use Rattle.node_info.specs.declared.Geometry.{Geometry}
use Rattle.btree_v2_header.specs.declared.BTreeV2Header.{BTreeV2Header}
use Rattle.btree_v2_collect.specs.Collect.{collected, run_output}
use Rattle.btree_v2_collect.proofs.Outcomes.{put_cases}
use Rattle.btree_v2_collect.proofs.Walking.{Step, records_walked, node_walked}

-- The counts that a walk ends with.
abbrev pub run_counts : Run → Counts
run_counts (fine c o) = c
run_counts (stopped number values c o) = c

-- o1 is o with other bytes from place a up to place b alone.
pub record Kept (a b : ℕ) (o o1 : List ℕ) : Type 0 where
  pub long : length o1 ≡ length o
  pub before : take a o1 ≡ take a o
  pub after : drop b o1 ≡ drop b o

kept_same : (a : ℕ) (o : List ℕ) → Kept a a o o
kept_same a o = record { long = refl; before = refl; after = refl }

-- Fewer bytes before, and after, say less.
take_less : {A : Type 0} (a b : ℕ) (x y : List A) → a ≤ b → take b x ≡ take b y → take a x ≡ take a y
take_less a b x y h e = rw (← take-take a b x h, e, take-take a b y h)

drop_less : {A : Type 0} (a b : ℕ) (x y : List A) → a ≤ b → drop a x ≡ drop a y → drop b x ≡ drop b y
drop_less a b x y h e =
    let f : b ≡ a + (b - a) = omega arith in rw (f, ← drop-drop (b - a) a x, e, drop-drop)

kept_then : (a b c : ℕ) (o o1 o2 : List ℕ) → a ≤ b → b ≤ c → Kept a b o o1 → Kept b c o1 o2 → Kept a c o o2
kept_then a b c o o1 o2 h l p q =
    record {
      long = q.long ∙ p.long;
      before = take_less a b o2 o1 h q.before ∙ p.before;
      after = q.after ∙ drop_less b c o1 o l p.after;
    }

kept_stored : (a b : ℕ) (o x : List ℕ) → a + length x ≤ b → b ≤ length o → Kept a b o (stored o a x)
kept_stored a b o x h l =
    record {
      long = length_stored o a x (omega arith);
      before = take_stored o a x (omega arith);
      after = drop_less (a + length x) b (stored o a x) o h (drop_stored_end o a x (omega arith));
    }

module _ (rs : ℕ) where
  -- With k records put out and the output o, the walk r has put out more, or none; else it leaves the output as it was.
  pub record Fronted (k : ℕ) (o : List ℕ) (r : Run) : Type 0 where
    pub more : k ≤ (run_counts r).records
    pub room : k * rs ≤ length o → (run_counts r).records * rs ≤ length o
    pub kept : Kept (k * rs) ((run_counts r).records * rs) o (run_output r)

  front_fine : (c : Counts) (o : List ℕ) → Fronted c.records o (fine c o)
  front_fine c o = record { more = le_refl c.records; room = λ h. h; kept = kept_same (c.records * rs) o }

  and_then_lem : {k : ℕ} {o : List ℕ} {r : Run} {next : Counts → List ℕ → Run} → Fronted k o r
      → ((c : Counts) (o1 : List ℕ) → Fronted c.records o1 (next c o1)) → Fronted k o (and_then r next)
  and_then_lem {k} {o} {r = fine c o1} {next} h f =
      let g = f c o1 in
      record {
        more = le_trans h.more g.more;
        room = λ l. rw h.kept.long at (g.room (rw h.kept.long (h.room l)));
        kept = kept_then _ _ _ o o1 _ (mul-le-mul_right rs h.more) (mul-le-mul_right rs g.more) h.kept g.kept;
      }
  and_then_lem {r = stopped number values c o1} h f = h

  pub stays : {number : ℕ} {values : List ℕ} (c : Counts) (o : List ℕ) → Fronted c.records o (stopped number values c o)
  stays c o = record { more = le_refl c.records; room = λ h. h; kept = kept_same (c.records * rs) o }

  if_passed_lem : (x : Answer) (c : Counts) {o : List ℕ} {r : Run} → Fronted c.records o r → Fronted c.records o (if_passed x c o r)
  if_passed_lem (accepted figures) c h = h
  if_passed_lem (refused number values) c {o} h = stays c o

module _ (file : List ℕ) (g : Geometry) where
  abbrev Front : Step → Type 0
  Front f = (c : Counts) (o : List ℕ) → Fronted g.record_size c.records o (f c o)

  put_front : (p : ℕ) → Front (put_record file g p)
  put_front p c o =
      put_cases file g p c o (Fronted g.record_size c.records o)
      (λ h.
      let whole : length (part file p g.record_size) ≤ g.record_size = simp length-take (omega arith) in
      record {
        more = omega arith;
        room = λ l. h;
        kept = kept_stored (c.records * g.record_size) ((c.records + 1) * g.record_size) o _ (omega arith) h;
      })
      (stays g.record_size c o)

  puts_front : (n p : ℕ) → Front (records_put file g n p)
  puts_front =
      records_walked file g {P = λ n p. Front}
      (record { none = front_fine g.record_size; more = λ h c o. and_then_lem g.record_size (put_front _ c o) h })

  -- Of every source, tests and output.
  pub node_fronted : (tests : Tests) (d a n : ℕ) (c : Counts) (o : List ℕ) → Fronted g.record_size c.records o (node_run file g tests d a n c o)
  unfolding leaf_run own_record_run
  node_fronted tests =
      node_walked file g tests {N = λ d a n. Front} {C = λ d a n m i. Front} {R = λ d a n i. Front}
      (record {
        leaf = λ a n c o. if_passed_lem g.record_size (tests.leaf a n) c (puts_front n (a + 6) (with_leaf c) o);
        internal = λ d a n h c o. if_passed_lem g.record_size (tests.internal d a n) c (h (with_internal c) o);
        child = λ d a n i h c o. and_then_lem g.record_size (h c o) (λ c1 o1. if_passed_lem g.record_size (tests.child d _ _) c1 (front_fine g.record_size c1 o1));
        own_record = λ d a n i c o. and_then_lem g.record_size (put_front _ c o) (λ c1. front_fine g.record_size (with_internal_record c1));
        more = λ f k h c o. and_then_lem g.record_size (f c o) (λ c1 o1. and_then_lem g.record_size (k c1 o1) h);
      })

-- Collecting, from no record on.
pub collected_fronted : (file : List ℕ) (h : BTreeV2Header) (out : List ℕ) → Fronted h.geometry.record_size 0 out (collected file h out)
unfolding collected
collected_fronted file h out =
    or_else_lem (not (no_records h.total_records h.num_records_in_root)) (front_fine h.geometry.record_size no_counts out)
    (if_passed_lem h.geometry.record_size (root_test h.geometry.record_size h.depth) no_counts (node_fronted file h.geometry _ h.depth _ _ no_counts out))
  where
    or_else_lem : (t : Bool) {x y : Run} → Fronted h.geometry.record_size 0 out x → Fronted h.geometry.record_size 0 out y → Fronted h.geometry.record_size 0 out (or_else t x y)
    or_else_lem true f g = g
    or_else_lem false f g = f

-- So the records that were put out are within the output.
pub collected_within : (file : List ℕ) (h : BTreeV2Header) (out : List ℕ)
    → (run_counts (collected file h out)).records * h.geometry.record_size ≤ length out
collected_within file h out = (collected_fronted file h out).room (rw zero-mul zero-le)
