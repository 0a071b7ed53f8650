-- What document 02, "Five", changes of finding. It is refused at a leaf that ends early where that leaf is on its descent, and answers as by
-- document 01's test of a leaf where it is not.
use mathlib.Core.Path.{◌≡◌, refl}
use mathlib.Core.Logic.{◌⊎◌, inl, inr}
use mathlib.Core.Bool.{Bool, true, false, not}
use mathlib.Core.List.{List, []}
use Prim.Native.Nat.{ℕ, zero, suc, ◌+◌, ◌*◌, ◌≤◌}
use native.Mathlib.Omega.{arith}
use lib.ListN.{length}
use Rattle.refusal.specs.Answer.{Answer, accepted, refused, or_else}
use Rattle.node_info.specs.declared.Geometry.{Geometry}
use Rattle.field.specs.declared.Field.{Field}
use Rattle.read_checks.specs.Tests.{no_records, root_test}
use Rattle.read_checks.proofs.Plain.{no_figures, root_plain}
use Rattle.btree_v2_header.specs.declared.BTreeV2Header.{BTreeV2Header}
use Rattle.btree_v2_leaf.specs.Leaf.{leaf_test}
use Rattle.btree_v2_leaf.proofs.Checksums.{test_by01, Summed, leaf_summed, checksum_missing, EndsEarly, ends_early, leaf_changed}
use Rattle.btree_v2_collect.specs.Walk.{Tests, pointer_to, address_in, records_in}
use Rattle.btree_v2_collect.specs.Collect.{collect_tests}
use Rattle.btree_v2_collect.proofs.Changed.{tests_by01}
use Rattle.btree_v2_find.proofs.Everywhere.{key_plain}
use Rattle.btree_v2_find.specs.Find.{Descent, ended, on_passed, bound, descent, key_test, descended}

module _ (file : List ℕ) (g : Geometry) (f : Field) (x : ℕ) where
  abbrev rs : ℕ
  rs = g.record_size

  abbrev down : Tests → ℕ → ℕ → ℕ → Descent
  down = descent file g f x

  -- The place of the pointer to the child taken in the internal node at a with n records whose children have level d.
  abbrev taken : ℕ → ℕ → ℕ → ℕ
  taken d a n = pointer_to g d a n (bound file g f x a n)

  -- The descent from the node of level d at a with n records on reaches the leaf at b with m records.
  pub data Reaches (b m : ℕ) : (d a n : ℕ) → Type 0 where
    here : Reaches b m zero b m
    below : {d a n : ℕ} {figures : List ℕ} → (collect_tests file g).internal d a n ≡ accepted figures
        → Reaches b m d (address_in file g (taken d a n)) (records_in file g (taken d a n)) → Reaches b m (suc d) a n

  -- A leaf that is reached and refused ends the descent, behind the nodes above it.
  pub record EndedAt (number : ℕ) (values : List ℕ) (d : ℕ) (r : Descent) : Type 0 where
    pub ends : r.ends ≡ refused number values
    pub nodes : r.nodes ≡ d

  pub reached_ends : {b m : ℕ} {number : ℕ} {values : List ℕ} → leaf_test file rs b m ≡ refused number values
      → {d a n : ℕ} → Reaches b m d a n → EndedAt number values d (down (collect_tests file g) d a n)
  unfolding descent collect_tests
  reached_ends e here = record { ends = rw e; nodes = rw e }
  reached_ends e (below t r) =
      let under = reached_ends e r in record { ends = rw t under.ends; nodes = rw t (omega (arith, under.nodes)) }

  -- A descent is that by document 01's test of a leaf, or reaches a leaf that ends early.
  pub data Changed (d a n : ℕ) : Type 0 where
    same : down (collect_tests file g) d a n ≡ down (tests_by01 file g) d a n → Changed d a n
    early : {b m : ℕ} → Reaches b m d a n → EndsEarly file rs b m → Changed d a n

  at_leaf : (a n : ℕ) → Changed zero a n
  unfolding descent collect_tests tests_by01
  at_leaf a n = by (leaf_changed file rs a n)
    where
      by : (leaf_test file rs a n ≡ test_by01 file rs a n) ⊎ EndsEarly file rs a n → Changed zero a n
      by (inl e) = same (rw e)
      by (inr e) = early here e

  at_internal : (d a n : ℕ) → Changed d (address_in file g (taken d a n)) (records_in file g (taken d a n)) → Changed (suc d) a n
  unfolding descent tests_by01
  at_internal d a n under = by ((collect_tests file g).internal d a n) refl under
    where
      by : (t : Answer) → (collect_tests file g).internal d a n ≡ t → Changed d (address_in file g (taken d a n)) (records_in file g (taken d a n)) → Changed (suc d) a n
      by (refused number values) e below-it = same (rw e)
      by (accepted figures) e (same h) = same (rw (e, h))
      by (accepted figures) e (early r h) = early (below e r) h

  pub descent_changed : (d a n : ℕ) → Changed d a n
  descent_changed zero a n = at_leaf a n
  descent_changed (suc d) a n = at_internal d a n (descent_changed d _ _)

-- Finding by document 01's test of a leaf.
unfoldable pub descended_by01 : List ℕ → BTreeV2Header → Field → ℕ → Descent
descended_by01 file h f x =
    let g = h.geometry in
    or_else (not (no_records h.total_records h.num_records_in_root)) (ended (accepted []))
    (on_passed (root_test g.record_size h.depth)
    (on_passed (key_test f g.record_size)
    (descent file g f x (tests_by01 file g) h.depth h.root_node_address h.num_records_in_root)))

module _ (file : List ℕ) (h : BTreeV2Header) (f : Field) (x : ℕ) where
  abbrev size : ℕ
  size = h.geometry.record_size

  -- Finding reaches the leaf at b with m records: there are records, the tests before the root pass, and the descent reaches it.
  pub record Reached (b m : ℕ) : Type 0 where
    pub some : no_records h.total_records h.num_records_in_root ≡ false
    pub rooted : root_test size h.depth ≡ accepted []
    pub keyed : key_test f size ≡ accepted []
    pub descends : Reaches file h.geometry f x b m h.depth h.root_node_address h.num_records_in_root

  reached_ended : {b m : ℕ} {number : ℕ} {values : List ℕ} → leaf_test file size b m ≡ refused number values → Reached b m
      → EndedAt file h.geometry f x number values h.depth (descended file h f x)
  unfolding descended
  reached_ended e r = rw (r.some, r.rooted, r.keyed) (reached_ends file h.geometry f x e r.descends)

  -- It is refused there where the leaf ends early, behind all nodes above.
  pub descended_early : {b m : ℕ} → Reached b m → EndsEarly file size b m
      → ((descended file h f x).ends ≡ checksum_missing file size b m) × ((descended file h f x).nodes ≡ h.depth)
  descended_early {b} {m} r e = let ended = reached_ended (ends_early file size b m e) r in (ended.ends, ended.nodes)

  -- It answers as by document 01's test, or reaches a leaf that ends early.
  pub data DescendedChanged : Type 0 where
    as_before : descended file h f x ≡ descended_by01 file h f x → DescendedChanged
    at_early : {b m : ℕ} → Reached b m → EndsEarly file size b m → DescendedChanged

  pub descended_changed : DescendedChanged
  unfolding descended descended_by01
  descended_changed =
      by (no_records h.total_records h.num_records_in_root) refl (root_test size h.depth) refl (key_test f size) refl
      (descent_changed file h.geometry f x h.depth _ _)
    where
      by : (t : Bool) → no_records h.total_records h.num_records_in_root ≡ t → (a : Answer) → root_test size h.depth ≡ a
          → (k : Answer) → key_test f size ≡ k → Changed file h.geometry f x h.depth h.root_node_address h.num_records_in_root → DescendedChanged
      by true none a e k u walk = as_before (rw none)
      by false some (refused number values) e k u walk = as_before (rw (some, e))
      by false some (accepted figures) e (refused number values) u walk = as_before (rw (some, e, u))
      by false some (accepted figures) e (accepted none) u (same w) = as_before (rw (some, e, u, w))
      by false some (accepted figures) e (accepted none) u (early r early-leaf) =
          at_early
          (record {
            some = some;
            rooted = rw (no_figures (root_plain size h.depth) e) at e;
            keyed = rw (no_figures (key_plain file h f x) u) at u;
            descends = r;
          })
          early-leaf

  -- Where the leaf that it reaches has the 4 bytes of its checksum, its answer is document 01's.
  pub descended_as_before : ((b m : ℕ) → Reached b m → b + 10 + m * size ≤ length file) → descended file h f x ≡ descended_by01 file h f x
  descended_as_before whole = by descended_changed
    where
      by : DescendedChanged → descended file h f x ≡ descended_by01 file h f x
      by (as_before e) = e
      by (at_early r e) = absurd (omega (arith, e.short, whole _ _ r))

  -- Where it accepts, the leaf that it reached has its checksum.
  pub descended_summed : {b m : ℕ} → (descended file h f x).ends ≡ accepted [] → Reached b m → Summed file size b m
  descended_summed {b} {m} accepts r = by (leaf_test file size b m) refl
    where
      by : (t : Answer) → leaf_test file size b m ≡ t → Summed file size b m
      by (accepted figures) e = leaf_summed file size b m figures e
      by (refused number values) e =
          let stops = (reached_ended e r).ends in let z : ◌≡◌ {A = ℕ} 0 1 = cc in absurd (omega arith)
