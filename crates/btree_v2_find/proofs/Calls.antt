-- Seeking in the part of a file from the header's base on: the refusals before the root, and the descent.
use mathlib.Core.Path.{◌≡◌, refl}
use mathlib.Core.Bool.{Bool, true, false, not}
use lib.Dec.{leb}
use mathlib.Core.List.{List, []}
use Prim.Native.Nat.{ℕ}
use lib.ListN.{length, drop}
use Rattle.std.specs.Prelude.{Option, None, Result, Ok, Err}
use Rattle.refusal.specs.Answer.{accepted, refused, or_else, refusal_of}
use Rattle.refusal.specs.declared.Refusal.{Refusal}
use Rattle.refusal.specs.declared.Refusal.TheVariants.{InvalidKeyField}
use Rattle.refusal.proofs.Answers.{refused_is}
use Rattle.field.specs.declared.Field.{Field}
use Rattle.field.specs.Field.{number_field}
use Rattle.read_checks.specs.Tests.{no_records, root_test}
use Rattle.read_checks.specs.Base.{on_part}
use Rattle.btree_v2_header.specs.declared.BTreeV2Header.{BTreeV2Header}
use Rattle.btree_v2_collect.specs.Collect.{collect_tests}
use Rattle.btree_v2_collect.specs.Opening.{nothing_in, opening, Opened}
use Rattle.btree_v2_collect.specs.declared.tree.Tree.{Tree}
use Rattle.btree_v2_find.specs.Find.{last_with, Descent, ended, on_passed, descent, key_test, descended, place_found, find_cells, found_at}
use Rattle.btree_v2_find.specs.Answers.{found_cells, found_of}

-- What is left where the tree has records.
module _ (file : List ℕ) (h : BTreeV2Header) (f : Field) (x : ℕ) where
  abbrev from_root : Descent
  from_root =
      descent file h.geometry f x (collect_tests file h.geometry) h.depth h.root_node_address h.num_records_in_root

  abbrev nothing : Bool
  nothing = no_records h.total_records h.num_records_in_root

  pub descended_empty : nothing ≡ true → descended file h f x ≡ ended (accepted [])
  unfolding descended
  descended_empty e = rw e

  pub descended_some : nothing ≡ false
      → descended file h f x
      ≡ on_passed (root_test h.geometry.record_size h.depth) (on_passed (key_test f h.geometry.record_size) from_root)
  unfolding descended
  descended_some e = rw e

  -- Of every tree: of one without records, and of one with some.
  pub descended_by : (P : Descent → Type 0) → P (ended (accepted [])) → (nothing ≡ false → P (descended file h f x)) → P (descended file h f x)
  descended_by P none some = by nothing refl
    where
      by : (t : Bool) → nothing ≡ t → P (descended file h f x)
      by true e = rw (descended_empty e) none
      by false e = some e

-- With a base: the tests of opening the tree, the key's, and the descent in the part.
module _ (file : List ℕ) (h : BTreeV2Header) (f : Field) (x : ℕ) where
  abbrev part : List ℕ
  part = drop h.base file

  abbrev by_key : Descent
  by_key = on_passed (key_test f h.geometry.record_size) (from_root part h f x)

  found_opens : found_at file h f x
      ≡ find_cells part f x (on_passed (opening file h) (or_else (not (nothing_in h)) (ended (accepted [])) by_key))
  unfolding found_at on_part descended find_cells place_found
  found_opens = by (leb h.base (length file)) (nothing_in h)
    where
      by : (t b : Bool)
          → or_else t (find_cells file f x (ended (refused 18 [])))
          (find_cells part f x (or_else (not b) (ended (accepted [])) (on_passed (root_test h.geometry.record_size h.depth) by_key)))
          ≡ find_cells part f x
          (on_passed (or_else t (refused 18 []) (or_else (not b) (accepted []) (root_test h.geometry.record_size h.depth)))
          (or_else (not b) (ended (accepted [])) by_key))
      by true true = refl
      by true false = refl
      by false b = refl

  -- `seek`, by its ways out.
  module _ (k : ℕ) (unread : k ≡ 0) where
    pub refuses : (q : Refusal) → refusal_of q ≡ opening file h → found_cells (found_of k (Err q)) ≡ found_at file h f x
    unfolding find_cells place_found
    refuses q e = rw (unread, found_opens, ← e, (refused_is q).2)

    module _ (passes : accepted [] ≡ opening file h) where
      pub finds_nothing : true ≡ nothing_in h → found_cells (found_of k (Ok None)) ≡ found_at file h f x
      unfolding find_cells place_found last_with
      finds_nothing none = rw (unread, found_opens, ← passes, ← none)

      module _ (t : Tree) (is : Opened file h t) where
        pub key_refused : false ≡ number_field f t.geometry.record_size → found_cells (found_of k (Err InvalidKeyField)) ≡ found_at file h f x
        unfolding find_cells place_found key_test
        key_refused has = let e = rw is.geometry at has in rw (unread, found_opens, ← passes, ← is.some, ← e)

  pub descends : accepted [] ≡ opening file h → (t : Tree) → Opened file h t → true ≡ number_field f t.geometry.record_size
      → (k : ℕ) (r : Result (Option ℕ) Refusal)
      → found_cells (found_of k r)
      ≡ find_cells t.file.now f x
      (descent t.file.now t.geometry f x (collect_tests t.file.now t.geometry) t.depth t.root.address t.root.records)
      → found_cells (found_of k r) ≡ found_at file h f x
  unfolding key_test
  descends passes t is has k r found =
      let e = rw is.geometry at has in
      rw (found_opens, ← passes, ← is.some, ← e, ← is.part, ← is.address, ← is.records, ← is.geometry, ← is.depth) found
