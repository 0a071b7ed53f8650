-- The search in one node.
use mathlib.Core.Path.{◌≡◌, refl, ap, sym, ◌∙◌}
use mathlib.Core.Logic.{⊎_elim}
use mathlib.Core.Bool.{Bool, true, false}
use mathlib.Core.List.{List, [], ◌∷◌}
use Prim.Native.Nat.{ℕ, ◌+◌, ◌*◌, ◌<◌, ◌≤◌, min}
use native.Mathlib.Nat.{zero-add, mul-le-mul_right, le-div_iff_mul-le, mul-div_left}
use native.Mathlib.Omega.{arith}
use denote.Ref.{Bor}
use denote.Param.Members.{Mut, Called}
use lib.ListN.{length, get_or}
use borrow.Author.Tests.{lt-ltb, le-ltb, leb-true, leb-false, ltb-true, ltb-false}
use Rattle.std.specs.Prelude.{Option, Some, None, MatchOption, IsTrue}
use Rattle.std.specs.declared.slice.ChunksExact.{ChunksExact}
use Rattle.std.specs.Slice.Iter.{chunks_exact_size, chunks_exact_rest}
use Rattle.std.specs.List.{slice_get}
use Rattle.std.proofs.lemmas.Option.{slice_get_cases}
use Rattle.std.proofs.iter.runs.Made.{at-is}
use lib.Dec.{leb, ltb, eqb}
use Rattle.std.specs.Bool.{then_some}
use Rattle.std.specs.Iterator.Runs.{Run, SomeRun, EveryRun, AllItemsGive, IsFirstToGive, CallKeepsClosure, IsChunksExactRun}
use Rattle.std.proofs.lemmas.Bool.{cases_lt}
use Rattle.numbers.specs.Numbers.{pick, unle, part, num}
use Rattle.numbers.proofs.Lists.{length_part, part_part}
use Rattle.node_info.specs.declared.Geometry.{Geometry}
use Rattle.field.specs.declared.Field.{Field}
use Rattle.field.specs.Field.{number_field, number_at}
use Rattle.field.proofs.Fields.{field_fits, number_is}
use Rattle.btree_v2_collect.specs.Walk.{record_place}
use Rattle.btree_v2_find.specs.Find.{bound_from, last_with, bound, bounding}
use Rattle.btree_v2_find.specs.Answers.{place_of}
use Rattle.btree_v2_find.specs.Descending.{bound_at}
use Rattle.btree_v2_find.proofs.Keys.{bound_from_lem}

-- Records that a key's field is in have bytes.
pub has_bytes : (f : Field) (rs : ℕ) → number_field f rs ≡ true → 0 < rs
has_bytes f rs has = let fits = field_fits f rs has in omega (arith, fits.some, fits.inside)

-- The number that bounds: none before it does, and it does where it is one.
module _ (key : ℕ → ℕ) (x n : ℕ) where
  abbrev among : Option ℕ
  among = let b = bound_from key x n 0 in pick (ltb b n) (Some b) None

  bounds : (b : ℕ) → b ≤ n → ((k : ℕ) → k < b → key k < x) → (b < n → x ≤ key b) → bound_from key x n 0 ≡ b
  bounds b most below reached =
      let is = bound_from_lem key x n 0 in
      let c = bound_from key x n 0 in
      ⊎_elim
      (λ (l : b < c). absurd (omega (arith, is.below b (omega arith) l, is.most, reached (omega (arith, is.most)))))
      (λ (l : c ≤ b).
      ⊎_elim
      (λ (m : c < b). absurd (omega (arith, is.reached (omega arith), below c m)))
      (λ (m : b ≤ c). omega arith)
      (cases_lt c b))
      (cases_lt b c)

  among_none : ((k : ℕ) → k < n → key k < x) → None ≡ among
  among_none below =
      let e : bound_from key x n 0 ≡ n = bounds n (omega arith) below (λ l. absurd (omega arith)) in
      let past : n ≤ n = omega arith in
      rw (e, le-ltb n n past)

  among_some : (i : ℕ) → i < n → x ≤ key i → ((k : ℕ) → k < i → key k < x) → Some i ≡ among
  among_some i h reached below =
      let e : bound_from key x n 0 ≡ i = bounds i (omega arith) below (λ l. reached) in
      rw (e, lt-ltb i n h)

-- The first record of the node at a, whose n records are in the file, for which a closure holds that compares a record's key with x.
module _ {F : Type 0} {steps : ChunksExact ℕ → Option (Bor (List ℕ)) → ChunksExact ℕ → Type 0} (g : Mut F (Bor (List ℕ) × Unit {0}) Bool) (f : F)
    (s : ChunksExact ℕ) (file : List ℕ) (sizes : Geometry) (field : Field) (x a n : ℕ) (has : number_field field sizes.record_size ≡ true)
    (there : record_place sizes a n ≤ length file) (size : chunks_exact_size s ≡ sizes.record_size)
    (rest : chunks_exact_rest s ≡ part file (a + 6) (n * sizes.record_size))
    (runs : EveryRun steps (λ p. 0 < chunks_exact_size p.from → IsChunksExactRun p (chunks_exact_size p.from) (chunks_exact_rest p.from)))
    (keeps : CallKeepsClosure g f)
    (compares : (y : Bor (List ℕ)) (b : Bool) → Called g f (y, tt) b f → b ≡ leb x (num y.now (0 + field.start) (min field.width 8))) where
  abbrev rs : ℕ
  rs = sizes.record_size

  abbrev key : ℕ → ℕ
  key k = number_at file field (record_place sizes a k)

  some : 0 < rs
  some = has_bytes field rs has

  abbrev records : List ℕ
  records = part file (a + 6) (n * rs)

  cuts : (u : Run steps) → u.from ≡ s → IsChunksExactRun u rs records
  cuts u from =
      let all : 0 < chunks_exact_size s → IsChunksExactRun u (chunks_exact_size s) (chunks_exact_rest s) = rw from at (runs u u.seen) in
      rw (size, rest) at (all (rw size some))

  long : length records ≡ n * rs
  long = length_part file (a + 6) (n * rs) there

  most : (u : Run steps) → u.from ≡ s → u.len ≤ n
  most u from = rw (mul-div_left n some) at ((le-div_iff_mul-le some).1 (rw long at (cuts u from).0))

  -- The item at a place of a run, and what the closure says of it.
  record Item (u : Run steps) (k : ℕ) : Type 0 where
    chunk : Bor (List ℕ)
    is : u.at k ≡ Some chunk
    says : (b : Bool) → Called g f (chunk, tt) b f → b ≡ leb x (key k)

  item_of : (u : Run steps) → u.from ≡ s → (k : ℕ) → k < u.len → (y : Bor (List ℕ)) → u.at k ≡ Some y → Item u k
  unfolding number_at num
  item_of u from k h y e =
      let cut : y.now ≡ part records (k * rs) rs = (rw e at ((cuts u from).2 k)).2.0 in
      let under : k + 1 ≤ n = omega (arith, most u from) in
      let inside : k * rs + rs ≤ n * rs = omega (arith, mul-le-mul_right rs under) in
      let fits = field_fits field rs has in
      let here : y.now ≡ part file (a + 6 + k * rs) rs = cut ∙ part_part file (a + 6) (n * rs) (k * rs) rs inside in
      let same : num y.now (0 + field.start) (min field.width 8) ≡ key k =
      number_is y.now field 0 fits.few ∙ rw (here, zero-add) (ap unle (part_part file (a + 6 + k * rs) rs field.start field.width fits.inside))
      in
      record { chunk = y; is = e; says = λ b said. compares y b said ∙ rw same }

  item : (u : Run steps) → u.from ≡ s → (k : ℕ) → k < u.len → Item u k
  item u from k h =
      ⊎_elim
      (λ (in_run : (y : Bor (List ℕ)) × (k < length u.items) × (slice_get u.items k ≡ Some y) × (get_or u.items k y ≡ y)).
      item_of u from k h in_run.0 (at-is u k ∙ in_run.2))
      (λ (past : (length u.items ≤ k) × (slice_get u.items k ≡ None)). absurd (omega (arith, u.long, past.0)))
      (slice_get_cases u.items k).1

  below : (u : Run steps) → u.from ≡ s → (k : ℕ) → k < u.len → ((y : Bor (List ℕ)) → u.at k ≡ Some y → Called g f (y, tt) false f) → key k < x
  below u from k h said = let it = item u from k h in leb-false x (key k) (sym (it.says false (said it.chunk it.is)))

  pub position_is : (r : Option ℕ)
      → SomeRun steps s (λ u. MatchOption r (IsTrue u.whole × AllItemsGive u g f false) (λ i. (u.len ≡ i + 1) × IsFirstToGive u g f true false i))
      → r ≡ bound_at file sizes field x a n
  unfolding bound
  position_is None (u, from, (whole, all)) =
      let all_of : u.len ≡ n = (cuts u from).1 whole ∙ rw long (mul-div_left n some) in
      among_none key x n (λ k h. below u from k (rw all_of h) (λ y e. rw e at (all keeps k)))
  position_is (Some i) (u, from, (len, first)) =
      let said = first keeps in
      let it = item u from i (omega arith) in
      let reached : x ≤ key i = leb-true x (key i) (sym (it.says true (rw it.is at said.0))) in
      among_some key x n i (omega (arith, most u from)) reached (λ k h. below u from k (omega arith) (λ y e. rw e at (said.1 k h)))

-- `step`, by the record that bounds: none, or record i.
module _ (file : List ℕ) (g : Geometry) (f : Field) (x a n : ℕ) where
  abbrev b : ℕ
  b = bound file g f x a n

  b_most : b ≤ n
  unfolding bound
  b_most = omega (arith, (bound_from_lem (λ i. number_at file f (record_place g a i)) x n 0).most)

  abbrev kept : List ℕ
  kept = last_with (number_at file f) x (bounding file g f x a n)

  past : bound_at file g f x a n ≡ None → n ≡ b
  past none = by (ltb b n) refl none
    where
      by : (t : Bool) → ltb b n ≡ t → pick t (Some b) None ≡ None → n ≡ b
      by true h e = cc
      by false h e = omega (arith, ltb-false b n h, b_most)

  pub child_none : (r : Option ℕ) → r ≡ bound_at file g f x a n → r ≡ None → n ≡ b
  child_none r is none = past (sym is ∙ none)

  pub place_none : (r : Option ℕ) → r ≡ bound_at file g f x a n → r ≡ None → [] ≡ kept
  unfolding bounding last_with
  place_none r is none = let least : n ≤ b = omega (arith, past (sym is ∙ none)) in rw (le-ltb b n least)

  record At (i : ℕ) : Type 0 where
    among : i < n
    here : i ≡ b

  at : (i : ℕ) → bound_at file g f x a n ≡ Some i → At i
  at i some = by (ltb b n) refl some
    where
      by : (t : Bool) → ltb b n ≡ t → pick t (Some b) None ≡ Some i → At i
      by true h e = let here : i ≡ b = cc in record { among = rw here (ltb-true b n h); here = here }
      by false h e = cc

  pub child_some : (r : Option ℕ) (i : ℕ) → r ≡ bound_at file g f x a n → r ≡ Some i → i ≡ b
  child_some r i is some = (at i (sym is ∙ some)).here

  some_place : (t : Bool) (p : ℕ) → place_of (then_some t p) ≡ pick t (p ∷ []) []
  some_place true p = refl
  some_place false p = refl

  pub place_some : (r : Option ℕ) (i : ℕ) (key : ℕ) (o : Option ℕ) → number_field f g.record_size ≡ true → r ≡ bound_at file g f x a n → r ≡ Some i
      → key ≡ num file (record_place g a i + f.start) (min f.width 8) → o ≡ then_some (eqb key x) (record_place g a i) → place_of o ≡ kept
  unfolding bounding last_with
  place_some r i key o has is some read then =
      let here = at i (sym is ∙ some) in
      let same : key ≡ number_at file f (record_place g a i) = read ∙ number_is file f (record_place g a i) (field_fits f _ has).few in
      rw (then, ← here.here, lt-ltb i n here.among, same) (some_place (eqb (number_at file f (record_place g a i)) x) (record_place g a i))
