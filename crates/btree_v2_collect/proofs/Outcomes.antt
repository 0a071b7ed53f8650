-- What room in the output makes of a record or of several, and what the header makes of collecting: one law for each outcome.
use mathlib.Core.Path.{◌≡◌, refl, sym, ap, fun_ext, ◌∙◌}
use mathlib.Core.Bool.{Bool, true, false, not}
use mathlib.Core.List.{List, [], ◌∷◌}
use Prim.Native.Nat.{ℕ, zero, suc, ◌+◌, ◌-◌, ◌*◌, ◌≤◌, ◌<◌}
use native.Mathlib.Nat.{suc-add, zero-add, add-zero, zero-mul}
use native.Mathlib.Omega.{arith}
use lib.Dec.{leb}
use lib.ListN.{length, drop}
use borrow.Author.Tests.{leb-true, lt-leb}
use Rattle.numbers.specs.Numbers.{part}
use Rattle.numbers.specs.Places.{stored}
use Rattle.refusal.specs.Answer.{Answer, accepted, refused, or_else}
use Rattle.read_checks.specs.Tests.{no_records, root_test}
use Rattle.read_checks.proofs.Root.{none_in_all}
use Rattle.btree_v2_collect.specs.Walk.{Counts, Run, fine, stopped, and_then, if_passed, no_counts, with_record, put_record, records_put, node_run}
use Rattle.node_info.specs.declared.Geometry.{Geometry}
use Rattle.btree_v2_header.specs.declared.BTreeV2Header.{BTreeV2Header}
use Rattle.btree_v2_collect.specs.Collect.{collect_tests, collected, collected_at}
use Rattle.btree_v2_collect.specs.Opening.{nothing_in, opening}
use Rattle.read_checks.specs.Base.{on_part}

-- Steps are grouped as one likes.
pub then_then : (r : Run) (f g : Counts → List ℕ → Run) → and_then (and_then r f) g ≡ and_then r (λ c o. and_then (f c o) g)
then_then (fine c o) f g = refl
then_then (stopped number values c o) f g = refl

-- A record where there is no room, and in both cases; n records, split anywhere; those that fit, and 15.
module _ (file : List ℕ) (g : Geometry) where
  module _ (p : ℕ) (c : Counts) (o : List ℕ) where
    pub put_short : length o < (c.records + 1) * g.record_size → put_record file g p c o ≡ stopped 15 (length o ∷ []) c o
    unfolding put_record
    put_short h = rw (lt-leb _ _ h)

    -- One of the two.
    pub put_cases : (P : Run → Type 0)
        → ((c.records + 1) * g.record_size ≤ length o → P (fine (with_record c) (stored o (c.records * g.record_size) (part file p g.record_size))))
        → P (stopped 15 (length o ∷ []) c o) → P (put_record file g p c o)
    unfolding put_record
    put_cases P fits short = by (leb ((c.records + 1) * g.record_size) (length o)) (leb-true _ _)
      where
        by : (t : Bool) → (t ≡ true → (c.records + 1) * g.record_size ≤ length o)
            → P (or_else t (stopped 15 (length o ∷ []) c o) (fine (with_record c) (stored o (c.records * g.record_size) (part file p g.record_size))))
        by true h = fits (h refl)
        by false h = short

  pub put_split : (k m p : ℕ) (c : Counts) (o : List ℕ)
      → records_put file g (k + m) p c o ≡ and_then (records_put file g k p c o) (records_put file g m (p + k * g.record_size))
  unfolding records_put
  put_split zero m p c o = rw (zero-add, zero-mul, add-zero)
  put_split (suc k) m p c o =
      let e : p + suc k * g.record_size ≡ p + g.record_size + k * g.record_size = omega arith in
      rw (suc-add, then_then, e) (ap (and_then (put_record file g p c o)) (fun_ext (λ c1. fun_ext (put_split k m (p + g.record_size) c1))))

  -- Where k records fit, as r says, and one more does not.
  pub put_some : (k n p : ℕ) (c c1 : Counts) (o o1 : List ℕ) → k < n → records_put file g k p c o ≡ fine c1 o1
      → length o1 < (c1.records + 1) * g.record_size → records_put file g n p c o ≡ stopped 15 (length o1 ∷ []) c1 o1
  unfolding records_put
  put_some k n p c c1 o o1 l h short =
      let e : n ≡ k + suc (n - (k + 1)) = omega arith in
      rw (e, put_split k (suc (n - (k + 1))) p c o, h, put_short (p + k * g.record_size) c1 o1 short)

-- Collecting: nothing to read, the tests before the root, and the walk.
module _ (file : List ℕ) (h : BTreeV2Header) (out : List ℕ) where
  pub collected_empty : no_records h.total_records h.num_records_in_root ≡ true → collected file h out ≡ fine no_counts out
  unfolding collected
  collected_empty e = rw e

  pub collected_none : h.total_records ≡ 0 → collected file h out ≡ fine no_counts out
  collected_none e = collected_empty (sym (none_in_all h.total_records h.num_records_in_root e))

  module _ (some : no_records h.total_records h.num_records_in_root ≡ false) where
    pub collected_root : collected file h out
        ≡ if_passed (root_test h.geometry.record_size h.depth) no_counts out
        (node_run file h.geometry (collect_tests file h.geometry) h.depth h.root_node_address h.num_records_in_root no_counts out)
    unfolding collected
    collected_root = rw some

    -- Where it is accepted, so was the walk.
    pub collected_fine : (c : Counts) (o : List ℕ) → collected file h out ≡ fine c o
        → node_run file h.geometry (collect_tests file h.geometry) h.depth h.root_node_address h.num_records_in_root no_counts out ≡ fine c o
    collected_fine c o e = past (root_test h.geometry.record_size h.depth) (sym collected_root ∙ e)
      where
        past : (a : Answer) {r : Run} → if_passed a no_counts out r ≡ fine c o → r ≡ fine c o
        past (accepted figures) f = f
        past (refused number values) f = cc

-- With a base: the tests of opening the tree, and the walk in the part.
module _ (file : List ℕ) (h : BTreeV2Header) (out : List ℕ) where
  abbrev walk_in_part : Run
  walk_in_part =
      let p = drop h.base file in
      node_run p h.geometry (collect_tests p h.geometry) h.depth h.root_node_address h.num_records_in_root no_counts out

  abbrev test : Answer
  test = root_test h.geometry.record_size h.depth

  pub collected_opens : collected_at file h out
      ≡ if_passed (opening file h) no_counts out (or_else (not (nothing_in h)) (fine no_counts out) walk_in_part)
  unfolding collected_at collected on_part
  collected_opens = by (leb h.base (length file)) (nothing_in h)
    where
      by : (t b : Bool)
          → or_else t (stopped 18 [] no_counts out) (or_else (not b) (fine no_counts out) (if_passed test no_counts out walk_in_part))
          ≡ if_passed (or_else t (refused 18 []) (or_else (not b) (accepted []) test)) no_counts out (or_else (not b) (fine no_counts out) walk_in_part)
      by true true = refl
      by true false = refl
      by false b = refl
