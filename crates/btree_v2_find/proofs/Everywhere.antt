-- What finding answers in every file, whatever collecting makes of it: document 02, "One".
use mathlib.Core.Path.{◌≡◌, refl}
use mathlib.Core.Bool.{true, false}
use mathlib.Core.List.{List, [], ◌∷◌, ◌++◌}
use Prim.Native.Nat.{ℕ, zero, suc, ◌+◌, ◌^◌, ◌≤◌, ◌<◌}
use native.Mathlib.Omega.{arith}
use lib.Dec.{ltb}
use lib.ListN.{length, get_or}
use borrow.Author.Tests.{ltb-true}
use Rattle.std.specs.List.{All}
use Rattle.std.proofs.lemmas.List.Elements.{All-nil, All-head, All-append}
use Rattle.numbers.proofs.Numbers.{num_lt}
use Rattle.refusal.specs.Answer.{Answer, accepted, refused, if_accepted, cells}
use Rattle.node_info.specs.declared.Geometry.{Geometry}
use Rattle.field.specs.declared.Field.{Field}
use Rattle.field.specs.Field.{number_field, number_at}
use Rattle.read_checks.specs.Tests.{no_records, root_test}
use Rattle.read_checks.proofs.Plain.{Plain, accepts, refuses, plain_or, root_plain, never_by_15}
use Rattle.btree_v2_header.specs.declared.BTreeV2Header.{BTreeV2Header}
use Rattle.btree_v2_leaf.proofs.Records.{leaf_plain}
use Rattle.btree_v2_internal.proofs.Nodes.{internal_plain}
use Rattle.btree_v2_collect.specs.Walk.{record_place}
use Rattle.btree_v2_collect.specs.Collect.{collect_tests}
use Rattle.btree_v2_collect.proofs.Nodes.{record_there}
use Rattle.btree_v2_collect.proofs.Tested.{collecting_there}
use Rattle.btree_v2_find.specs.Find.{last_with, Descent, ended, on_passed, bound, bounding, descent, key_test, descended, place_found, place_cells, find_cells, found}
use Rattle.btree_v2_find.specs.Sorted.{record_size, answered}
use Rattle.btree_v2_find.specs.Refusals.{nodes_on, RefusedAfter, here, below, RefusedBy, before_root, at_key, at_node}
use Rattle.btree_v2_find.proofs.Calls.{descended_empty, descended_some, descended_by}
use Rattle.btree_v2_find.proofs.Keys.{all_pick, AtMostOne, no_place, one_place, NoneHas, last_is, last_none, last_only, last_has, last_one}

-- The answer of a descent is one place, or none: where it is accepted, that of the last bounding record with the key.
module _ (file : List ℕ) (f : Field) (x : ℕ) (r : Descent) where
  pub no_more_than_one : AtMostOne (place_found file f x r)
  unfolding place_found
  no_more_than_one = by r.ends (last_one (number_at file f) x r.bounds)
    where
      by : (a : Answer) {places : List ℕ} → AtMostOne places → AtMostOne (if_accepted a places [])
      by (accepted figures) h = h
      by (refused number values) h = no_place

  -- Where it is refused, nothing is found.
  pub refused_none : (number : ℕ) (values : List ℕ) → r.ends ≡ refused number values → place_found file f x r ≡ []
  unfolding place_found
  refused_none number values e = rw e

  module _ (fine : r.ends ≡ accepted []) where
    pub answer_last : (ps : List ℕ) (p : ℕ) (qs : List ℕ) → r.bounds ≡ ps ++ (p ∷ qs) → number_at file f p ≡ x → NoneHas (number_at file f) x qs
        → place_found file f x r ≡ p ∷ []
    unfolding place_found
    answer_last ps p qs e has others = rw (fine, e) (last_is (number_at file f) x ps p qs has others)

    pub answer_none : NoneHas (number_at file f) x r.bounds → place_found file f x r ≡ []
    unfolding place_found
    answer_none h = rw fine (last_none (number_at file f) x r.bounds h)

    pub answer_only : place_found file f x r ≡ [] → NoneHas (number_at file f) x r.bounds
    unfolding place_found
    answer_only e = last_only (number_at file f) x r.bounds (rw fine at e)

-- A record of rs bytes at place p is in the file, and has the key.
pub record FoundThere (file : List ℕ) (rs : ℕ) (f : Field) (x p : ℕ) : Type 0 where
  pub there : p + rs ≤ length file
  pub key : number_at file f p ≡ x

module _ (file : List ℕ) (g : Geometry) where
  -- The record at place p is in the file.
  abbrev RecordIn : ℕ → Type 0
  RecordIn p = p + g.record_size ≤ length file

  -- Of a descent from a node of level d on, refused or not: its bounding records are in the file; it reads a node of each level at most, and
  -- where it is accepted one of each; and it is never refused by 15.
  record Holds (d : ℕ) (r : Descent) : Type 0 where
    there : All RecordIn r.bounds
    most : r.nodes ≤ d + 1
    all : r.ends ≡ accepted [] → r.nodes ≡ d + 1
    plain : Plain r.ends

  -- Where a test refuses, nothing is read.
  holds_passed : (d : ℕ) (a : Answer) (next : Descent) → Plain a → ((figures : List ℕ) → a ≡ accepted figures → Holds d next) → Holds d (on_passed a next)
  holds_passed d (accepted figures) next plain h = h figures refl
  holds_passed d (refused number values) next plain h =
      record { there = All-nil RecordIn; most = omega arith; all = λ e. let z : ◌≡◌ {A = ℕ} 0 1 = cc in absurd (omega arith); plain = plain }

  module _ (f : Field) (x : ℕ) where
    -- The bounding record is one of the node's records.
    bounding_there : (a n : ℕ) → record_place g a n ≤ length file → All RecordIn (bounding file g f x a n)
    unfolding bounding
    bounding_there a n h =
        all_pick RecordIn (record_place g a (bound file g f x a n)) (ltb (bound file g f x a n) n)
        (λ e. let there = record_there file g a n h (bound file g f x a n) (ltb-true _ _ e) in omega (arith, there))

    descent_holds : (d a n : ℕ) → Holds d (descent file g f x (collect_tests file g) d a n)
    unfolding descent collect_tests
    descent_holds zero a n =
        holds_passed 0 _ _ (leaf_plain file _ a n)
        (λ figures e.
        record {
          there = All-append RecordIn _ _ (bounding_there a n ((collecting_there file g).leaf a n figures e).1) (All-nil RecordIn);
          most = omega arith;
          all = λ e. refl;
          plain = accepts;
        })
    descent_holds (suc d) a n =
        holds_passed (suc d) _ _ (internal_plain file _ _ _ a n)
        (λ figures e.
        let next = descent_holds d _ _ in
        record {
          there = All-append RecordIn _ _ (bounding_there a n ((collecting_there file g).internal d a n figures e).1) next.there;
          most = omega (arith, next.most);
          all = λ e. omega (arith, next.all e);
          plain = next.plain;
        })

-- By what a descent is refused: at a test, with nothing read, or past it; so by the first node on it that does not pass, behind those read.
module _ (number : ℕ) (values : List ℕ) where
  past_test : (P : ℕ → Type 0) {a : Answer} (next : Descent) → Plain a → (a ≡ refused number values → P 0)
      → (a ≡ accepted [] → next.ends ≡ refused number values → P next.nodes)
      → (on_passed a next).ends ≡ refused number values → P (on_passed a next).nodes
  past_test P next accepts stops goes_on e = goes_on refl e
  past_test P next (refuses k h) stops goes_on e = stops e

  module _ (file : List ℕ) (g : Geometry) (f : Field) (x : ℕ) where
    abbrev down : ℕ → ℕ → ℕ → Descent
    down = descent file g f x (collect_tests file g)

    abbrev RefusedDown : ℕ → ℕ → ℕ → ℕ → Type 0
    RefusedDown d a n i = RefusedAfter (collect_tests file g) number values i (nodes_on file g f x d a n)

    descent_refused : (d a n : ℕ) → (down d a n).ends ≡ refused number values → RefusedDown d a n (down d a n).nodes
    unfolding descent collect_tests nodes_on
    descent_refused zero a n =
        past_test (RefusedDown 0 a n) _ (leaf_plain file _ a n) here (λ passes e. let z : ◌≡◌ {A = ℕ} 0 1 = cc in absurd (omega arith))
    descent_refused (suc d) a n =
        past_test (RefusedDown (suc d) a n) _ (internal_plain file _ _ _ a n) here (λ passes e. below passes (descent_refused d _ _ e))

-- Finding in a file, or in the part of one from the header's base on.
module _ (file : List ℕ) (h : BTreeV2Header) (f : Field) (x : ℕ) where
  abbrev g : Geometry
  g = h.geometry

  -- An empty tree is accepted with nothing read.
  pub nodes_empty : no_records h.total_records h.num_records_in_root ≡ true → descended file h f x ≡ ended (accepted [])
  nodes_empty = descended_empty file h f x

  pub key_plain : Plain (key_test f (record_size h))
  unfolding key_test
  key_plain = plain_or (number_field f (record_size h)) (refuses 17 (omega arith)) accepts

  root_holds : no_records h.total_records h.num_records_in_root ≡ false → Holds file g h.depth (descended file h f x)
  root_holds some =
      rw (descended_some file h f x some)
      (holds_passed file g h.depth (root_test (record_size h) h.depth) _ (root_plain (record_size h) h.depth)
      (λ figures e.
      holds_passed file g h.depth _ _ key_plain
      (λ figures e. descent_holds file g f x h.depth _ _)))

  by_root : (P : Descent → Type 0) → P (ended (accepted [])) → ((r : Descent) → Holds file g h.depth r → P r) → P (descended file h f x)
  by_root P none some = descended_by file h f x P none (λ e. some _ (root_holds e))

  -- At most one node of each level is read, and exactly one where a tree with records is accepted.
  pub nodes_at_most : (descended file h f x).nodes ≤ h.depth + 1
  nodes_at_most = by_root (λ r. r.nodes ≤ h.depth + 1) (omega arith) (λ r t. t.most)

  pub nodes_accepted : no_records h.total_records h.num_records_in_root ≡ false → (descended file h f x).ends ≡ accepted []
      → (descended file h f x).nodes ≡ h.depth + 1
  nodes_accepted some = (root_holds some).all

  -- Its six numbers: of an empty tree, and of one with records that is accepted.
  pub empty_cells : no_records h.total_records h.num_records_in_root ≡ true
      → found file h f x ≡ 0 ∷ 0 ∷ 0 ∷ 0 ∷ 0 ∷ 0 ∷ []
  unfolding find_cells cells place_found last_with
  empty_cells e = rw (nodes_empty e)

  pub accepted_cells : no_records h.total_records h.num_records_in_root ≡ false → (descended file h f x).ends ≡ accepted []
      → found file h f x ≡ 0 ∷ 0 ∷ 0 ∷ (h.depth + 1) ∷ place_cells (answered file h f x)
  unfolding find_cells cells
  accepted_cells some fine = rw (fine, nodes_accepted some fine)

  -- Finding has no output, and is never refused for want of it.
  pub never_15 : (number : ℕ) (values : List ℕ) → (descended file h f x).ends ≡ refused number values → number ≡ 15 → ⊥
  never_15 number values = never_by_15 (by_root (λ r. Plain r.ends) accepts (λ r t. t.plain))

  -- A refusal is that of a test before the root, of the key's field or of a node on the descent.
  pub refused_by : (number : ℕ) (values : List ℕ) → (descended file h f x).ends ≡ refused number values
      → RefusedBy file h f x number values (descended file h f x).nodes
  refused_by number values =
      let P : ℕ → Type 0 = RefusedBy file h f x number values in
      descended_by file h f x (λ r. r.ends ≡ refused number values → P r.nodes)
      (λ e. let z : ◌≡◌ {A = ℕ} 0 1 = cc in absurd (omega arith))
      (λ some.
      rw (descended_some file h f x some)
      (past_test number values P _ (root_plain (record_size h) h.depth) before_root
      (λ rooted.
      past_test number values P _ key_plain (at_key rooted)
      (λ keyed e. at_node rooted keyed (descent_refused number values file g f x h.depth _ _ e)))))

  -- Every bounding record is in the file; the one that is found has the key too.
  pub bounds_there : All (λ p. p + record_size h ≤ length file) (descended file h f x).bounds
  bounds_there = by_root (λ r. All (λ p. p + record_size h ≤ length file) r.bounds) (All-nil (RecordIn file g)) (λ r t. t.there)

  pub found_there : (p : ℕ) → answered file h f x ≡ p ∷ [] → FoundThere file (record_size h) f x p
  unfolding place_found
  found_there p e =
      let has =
      last_has (number_at file f) x (RecordIn file g) (FoundThere file (record_size h) f x) _
      (λ q there key. record { there = there; key = key }) bounds_there in
      All-head (FoundThere file (record_size h) f x) p [] (rw e at (by (descended file h f x).ends _ has))
    where
      by : (a : Answer) (places : List ℕ) → All (FoundThere file (record_size h) f x) places → All (FoundThere file (record_size h) f x) (if_accepted a places [])
      by (accepted figures) places all = all
      by (refused number values) places all = All-nil (FoundThere file (record_size h) f x)

  -- A key that no field of its width holds is nowhere in a file of bytes.
  pub key_too_large : 256 ^ f.width ≤ x → ((i : ℕ) → get_or file i 0 < 256) → answered file h f x ≡ []
  unfolding number_at
  key_too_large large bytes = by (no_more_than_one file f x (descended file h f x)) refl
    where
      by : {places : List ℕ} → AtMostOne places → answered file h f x ≡ places → places ≡ []
      by no_place e = refl
      by (one_place p) e = absurd (omega (arith, (found_there p e).key, num_lt file (p + f.start) f.width bytes))
