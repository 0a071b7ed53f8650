-- Where collecting accepts and the records that it put out never fall in key, finding answers the first with the key: document 02, "One".
use mathlib.Core.Path.{◌≡◌, refl, sym, ◌∙◌}
use mathlib.Core.Logic.{◌⊎◌, inl, inr, ⊎_elim}
use mathlib.Core.Bool.{Bool, true, false}
use mathlib.Core.List.{List, [], ◌∷◌, cons≢nil}
use Prim.Native.Nat.{ℕ, zero, suc, ◌+◌, ◌≤◌, ◌<◌, zero-le}
use native.Mathlib.Nat.{zero-mul}
use native.Mathlib.Omega.{arith}
use lib.Dec.{eqb}
use lib.ListN.{get_or}
use borrow.Author.Tests.{eqb-true, eqb-false}
use Rattle.std.proofs.lemmas.Bool.{cases_lt}
use Rattle.std.proofs.lemmas.List.Elements.{All-from_get_or}
use Rattle.refusal.specs.Answer.{Answer, accepted, refused}
use Rattle.node_info.specs.declared.Geometry.{Geometry}
use Rattle.field.specs.declared.Field.{Field}
use Rattle.field.specs.Field.{number_field, number_at}
use Rattle.field.proofs.Fields.{field_fits, number_same}
use Rattle.read_checks.specs.Tests.{no_records, root_test}
use Rattle.btree_v2_header.specs.declared.BTreeV2Header.{BTreeV2Header}
use Rattle.btree_v2_collect.specs.Walk.{Counts, Run, fine, if_passed, no_counts, Tests}
use Rattle.btree_v2_collect.specs.InFile.{places_at, records_at}
use Rattle.btree_v2_collect.specs.Collect.{collect_tests, collected}
use Rattle.btree_v2_collect.proofs.InFile.{RecordsThere, Done, walk_done}
use Rattle.btree_v2_collect.proofs.Outcomes.{collected_empty, collected_root, collected_fine}
use Rattle.btree_v2_collect.proofs.Places.{PutOut, put_out_lem, put_each_lem}
use Rattle.btree_v2_collect.proofs.Tested.{collecting_there}
use Rattle.btree_v2_find.specs.Find.{Descent, on_passed, last_with, descent, key_test, descended, place_found, found}
use Rattle.btree_v2_find.specs.Sorted.{key_of, NeverFall, First, None, places_of, record_size, HasKey, answered, FindsFirst, FindsInOrder}
use Rattle.btree_v2_find.proofs.Calls.{descended_empty, descended_some, descended_by}
use Rattle.btree_v2_find.proofs.Everywhere.{accepted_cells}
use Rattle.btree_v2_find.proofs.Keys.{first_with, HasNot, first_is, first_none, rising_from}
use Rattle.btree_v2_find.proofs.Nodes.{descends, last_first}

-- Some record is the first with the key, or none has it.
module _ (o : List ℕ) (rs : ℕ) (f : Field) (x : ℕ) where
  first_or_none : (n : ℕ) → ((i : ℕ) × First o rs f n x i) ⊎ None o rs f n x
  first_or_none zero = inr (λ i l e. omega arith)
  first_or_none (suc n) =
      ⊎_elim
      (λ (t : (i : ℕ) × First o rs f n x i). inl (t.0, record { among = omega (arith, t.1.among); has = t.1.has; before = t.1.before }))
      (λ (none : None o rs f n x). by none (eqb (key_of o rs f n) x) refl)
      (first_or_none n)
    where
      by : None o rs f n x → (t : Bool) → eqb (key_of o rs f n) x ≡ t → ((i : ℕ) × First o rs f (suc n) x i) ⊎ None o rs f (suc n) x
      by none true e = inl (n, record { among = omega arith; has = eqb-true _ _ e; before = none })
      by none false e =
          inr (λ i l is.
          ⊎_elim (λ (k : i < n). none i k is) (λ (k : n ≤ i). let same : i ≡ n = omega arith in eqb-false _ _ e (rw same at is)) (cases_lt i n))

module _ (file : List ℕ) (h : BTreeV2Header) (f : Field) (x : ℕ) where
  abbrev g : Geometry
  g = h.geometry

  abbrev key : ℕ → ℕ
  key = number_at file f

  abbrev rs : ℕ
  rs = record_size h

  abbrev places : List ℕ
  places = places_of file h

  -- The n records put out have the keys that they have in the file.
  abbrev KeysSame : List ℕ → ℕ → Type 0
  KeysSame o n = (i : ℕ) → i < n → key_of o rs f i ≡ key (get_or places i 0)

  keys_same : (o : List ℕ) (n : ℕ) → number_field f rs ≡ true → PutOut file g places o n → KeysSame o n
  keys_same o n field put i l =
      number_same o file f rs _ _ (field_fits f rs field).inside (put_each_lem file g places o n put i l)

  -- What is shown of each tree: its records are put out, with the keys that they have in the file, and finding answers the first place
  -- with the key.
  record Answers (o : List ℕ) (n : ℕ) : Type 0 where
    put : PutOut file g places o n
    same : KeysSame o n
    place : answered file h f x ≡ first_with key x places

  by_number : (o : List ℕ) (n : ℕ) → (descended file h f x).ends ≡ accepted [] → Answers o n → FindsFirst file h f x o n
  by_number o n accepts a =
      let many = a.put.many in
      let either = first_or_none o rs f x n in
      let first : (i : ℕ) → First o rs f n x i → answered file h f x ≡ get_or places i 0 ∷ [] = λ i t.
      let among = t.among in
      a.place ∙ first_is key x places i (omega arith) (sym (a.same i among) ∙ t.has) (λ j l e. t.before j l (a.same j (omega arith) ∙ e)) in
      record {
        many = many;
        bytes = a.put.bytes;
        each = put_each_lem file g places o n a.put;
        accepts = accepts;
        first = first;
        none = λ t. a.place ∙ first_none key x places (All-from_get_or (HasNot key x) places 0 (λ i l e. t i (omega arith) (a.same i (omega arith) ∙ e)));
        only = λ e. ⊎_elim (λ (t : (i : ℕ) × First o rs f n x i). absurd (cons≢nil (sym (first t.0 t.1) ∙ e))) (λ none. none) either;
        either = either;
      }

  -- A tree without records.
  module _ (empty : no_records h.total_records h.num_records_in_root ≡ true) where
    answers_none : (o : List ℕ) → Answers o 0
    unfolding places_of place_found last_with first_with records_at
    answers_none o =
        record {
          put = rw empty (record { many = refl; bytes = rw zero-mul; whole = rw zero-mul });
          same = λ i l. absurd (omega arith);
          place = rw (descended_empty file h f x empty, empty);
        }

  -- One with some, which collecting accepts.
  module _ (some : no_records h.total_records h.num_records_in_root ≡ false) (field : number_field f rs ≡ true)
      (out o : List ℕ) (c : Counts) (e : collected file h out ≡ fine c o) where
    abbrev tests : Tests
    tests = collect_tests file g

    abbrev there : RecordsThere file g tests
    there = collecting_there file g

    abbrev down : Descent
    down = descent file g f x tests h.depth h.root_node_address h.num_records_in_root

    places_are : places ≡ places_at file g h.depth h.root_node_address h.num_records_in_root
    unfolding places_of
    places_are = rw some

    descended_is : descended file h f x ≡ down
    unfolding key_test
    descended_is = descended_some file h f x some ∙ rw field (past (root_test rs h.depth) _ (sym (collected_root file h out some) ∙ e))
      where
        past : (a : Answer) (r : Run) → if_passed a no_counts out r ≡ fine c o → on_passed a down ≡ down
        past (accepted figures) r passes = refl
        past (refused number values) r passes = cc

    walked : Done file g tests there h.depth h.root_node_address h.num_records_in_root no_counts out c o
    walked = walk_done file g tests there h.depth _ _ no_counts out c o (rw zero-mul zero-le) (collected_fine file h out some c o e)

    accepts_some : (descended file h f x).ends ≡ accepted []
    accepts_some = rw descended_is (descends file g f x tests h.depth _ _ walked.sound)

    answers_some : NeverFall o rs f c.records → Answers o c.records
    unfolding place_found
    answers_some never =
        let put = rw (← places_are) at (put_out_lem file g tests there h.depth _ _ out c o walked) in
        let same = keys_same o c.records field put in
        let many = put.many in
        let rising = rising_from key places (λ i l. rw (← same i (omega arith), ← same (i + 1) (omega arith)) (never i (omega arith))) in
        let last = last_first file g f x tests h.depth _ _ walked.sound (rw places_are at rising) in
        record { put = put; same = same; place = rw (accepts_some, descended_is, places_are) last }

-- Finding accepts wherever collecting accepts and the key is a field of the records, whatever the order of their keys.
module _ (file : List ℕ) (h : BTreeV2Header) (f : Field) (x : ℕ) (out o : List ℕ) (c : Counts) (e : collected file h out ≡ fine c o) (field : HasKey h f) where
  pub collecting_accepts : (descended file h f x).ends ≡ accepted []
  collecting_accepts =
      descended_by file h f x (λ r. r.ends ≡ accepted []) refl (λ some. accepts_some file h f x some (field some) out o c e)

-- The theorem: document 02's sentence.
pub finds_first : FindsInOrder
finds_first file h f x out o c e field never =
    by_number file h f x o c.records (collecting_accepts file h f x out o c e field)
    (by (no_records h.total_records h.num_records_in_root) refl)
  where
    by : (t : Bool) → no_records h.total_records h.num_records_in_root ≡ t → Answers file h f x o c.records
    by true empty =
        let run = sym (collected_empty file h out empty) ∙ e in
        let counts : no_counts ≡ c = cc in rw (← counts) (answers_none file h f x empty o)
    by false some = answers_some file h f x some (field some) out o c e never

-- Finding's six numbers in a tree with records: it accepts, behind one node of each level, with the place of record i, the first with the
-- key, or with none.
module _ (file : List ℕ) (h : BTreeV2Header) (f : Field) (x : ℕ) (out o : List ℕ) (c : Counts) (e : collected file h out ≡ fine c o) (field : HasKey h f)
    (never : NeverFall o (record_size h) f c.records) (some : no_records h.total_records h.num_records_in_root ≡ false) where
  abbrev finds : FindsFirst file h f x o c.records
  finds = finds_first file h f x out o c e field never

  pub found_cells_lem : (i : ℕ) → First o (record_size h) f c.records x i
      → found file h f x ≡ 0 ∷ 0 ∷ 0 ∷ (h.depth + 1) ∷ 1 ∷ get_or (places_of file h) i 0 ∷ []
  found_cells_lem i first = accepted_cells file h f x some finds.accepts ∙ rw (finds.first i first)

  pub none_cells : None o (record_size h) f c.records x
      → found file h f x ≡ 0 ∷ 0 ∷ 0 ∷ (h.depth + 1) ∷ 0 ∷ 0 ∷ []
  none_cells none = accepted_cells file h f x some finds.accepts ∙ rw (finds.none none)
