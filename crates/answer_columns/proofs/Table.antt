-- A refusal and the capacity table in the caller's array.
use Rattle.std.proofs.lemmas.List.{ext_get_or, length-map, get_or-map}
use Rattle.std.proofs.Common.{◌≡◌, ℕ, zero, suc, ◌+◌, ◌≤◌, ◌<◌, List, [], ◌∷◌, ◌++◌, length, get_or, set, take, drop, map, replicate, min, sym, ◌∙◌, arith}
use mathlib.Core.List.{append-nil}
use native.Mathlib.Nat.{zero-add}
use borrow.Rule.Slice.PartMut.{put_mid}
use lib.ListN.{length-take, length-drop, length-replicate, take-append-drop, drop_of_length-le}
use lib.Seq.{get_or-take, get_or-drop, drop-drop, length-take-le, take-take, take_all}
use Rattle.numbers.specs.Places.{put}
use Rattle.numbers.proofs.Lists.{put_fits, stored_is}
use Rattle.node_info.specs.declared.NodeInfo.{NodeInfo}
use Rattle.node_info.specs.declared.Level.{Level}
use Rattle.node_info.specs.Table.{no_level, table_figures}
use Rattle.answer_columns.specs.Columns.{columns_of}
use Rattle.refusal.specs.declared.Refusal.{Refusal}
use Rattle.refusal.specs.Answer.{accepted, refusal_of, cells}
use Rattle.refusal.proofs.Answers.{cells_accepted, cells_front, cells_more, length_cells}

-- The first k of a refusal's three numbers t, and zeros.
pub refusal_put : (cause : Refusal) (k : ℕ) {t : List ℕ} → t ≡ cells 3 (refusal_of cause) → take (min k 3) t ++ drop (min k 3) (replicate k 0) ≡ cells k (refusal_of cause)
refusal_put cause zero e = cells_front 0 (refusal_of cause)
refusal_put cause (suc zero) e =
    let two = cells_front 2 (refusal_of cause) in
    rw (append-nil, e, ← cells_front 1 (refusal_of cause), ← two, take-take 1 2 _ (omega arith))
refusal_put cause (suc (suc zero)) e = rw (append-nil, e) (cells_front 2 (refusal_of cause))
refusal_put cause (suc (suc (suc m))) e =
    let three : min (suc (suc (suc m))) 3 ≡ 3 = omega arith in
    let all : suc (suc (suc m)) ≡ m + 3 = omega arith in
    rw (three, e, take_all 3 (cells 3 (refusal_of cause)) (omega (arith, length_cells 3 (refusal_of cause))), all) (sym (cells_more cause m))

-- So they are where they are put over zeros o, as many as there are.
pub refusal_over : (cause : Refusal) (k : ℕ) {t o n : List ℕ} → t ≡ cells 3 (refusal_of cause) → o ≡ replicate k 0 → n ≡ put o 0 (take (min k 3) t)
    → n ≡ cells k (refusal_of cause)
refusal_over cause k {t} e zeros is =
    let few : length (take (min k 3) t) ≡ min k 3 = length-take-le (min k 3) t (rw (e, length_cells) (omega arith)) in
    let room : 0 + length (take (min k 3) t) ≤ length (replicate k 0) = rw (few, length-replicate) (omega arith) in
    let put_there = put_fits (replicate k 0) 0 (take (min k 3) t) room in
    rw (is, zeros) (put_there ∙ stored_is (replicate k 0) 0 (take (min k 3) t) ∙ rw (few, zero-add) (refusal_put cause k e))

-- What stands from a place on: a piece, and what stands behind it.
piece : (a x y : List ℕ) (p n : ℕ) → length x ≡ n → p + n ≤ length a → ((k : ℕ) → k < n → get_or a (p + k) 0 ≡ get_or x k 0) → drop (p + n) a ≡ y → drop p a ≡ x ++ y
piece a x y p n long room same behind =
    let size : length (take n (drop p a)) ≡ n = simp (length-take, length-drop) (omega arith) in
    let front : take n (drop p a) ≡ x =
    ext_get_or 0 _ x (size ∙ sym long) (λ k h. let few : k < n = rw size at h in rw (get_or-take n (drop p a) k 0 few, get_or-drop) (same k few)) in
    rw (← take-append-drop n (drop p a), front, drop-drop, behind)

-- The entries of the first i levels stand in the columns c.
pub record InColumns (levels : List Level) (i : ℕ) (c : List ℕ) : Type 0 where
  pub long : length c ≡ 99
  pub nodes : (k : ℕ) → k < i → get_or c k 0 ≡ (get_or levels k no_level).max_nrec
  pub subtrees : (k : ℕ) → k < i → get_or c (33 + k) 0 ≡ (get_or levels k no_level).cum_max_nrec
  pub totals : (k : ℕ) → k < i → get_or c (66 + k) 0 ≡ (get_or levels k no_level).cum_max_nrec_size

module _ (levels : List Level) (i : ℕ) (c : List ℕ) (inv : InColumns levels i c) (all : length levels ≡ 33) (to_the_last : length levels ≤ i) where
  column_at : (f : Level → ℕ) (p : ℕ) → ((k : ℕ) → k < i → get_or c (p + k) 0 ≡ f (get_or levels k no_level)) → (k : ℕ) → k < 33
      → get_or c (p + k) 0 ≡ get_or (map f levels) k 0
  column_at f p entries k few = rw (get_or-map f levels k no_level 0 (omega arith)) (entries k (omega arith))

  pub columns_whole : c ≡ columns_of levels
  columns_whole =
      let short : length c ≤ 99 = omega (arith, inv.long) in
      let none_left : drop 99 c ≡ [] = drop_of_length-le c short in
      piece c _ _ 0 33 (length-map _ _ ∙ all) (omega (arith, inv.long)) (column_at (λ (l : Level). l.max_nrec) 0 (λ k few. rw zero-add (inv.nodes k few)))
      (piece c _ _ 33 33 (length-map _ _ ∙ all) (omega (arith, inv.long)) (column_at (λ (l : Level). l.cum_max_nrec) 33 inv.subtrees)
      (piece c _ [] 66 33 (length-map _ _ ∙ all) (omega (arith, inv.long)) (column_at (λ (l : Level). l.cum_max_nrec_size) 66 inv.totals) none_left))
      ∙ simp append-nil

-- The answer of the table: 0, the width of a record count, and the columns c.
pub table_told : (a c : List ℕ) (info : NodeInfo) → length a ≡ 101 → length c ≡ 99 → c ≡ columns_of info.levels
    → put_mid 2 99 (set (set a 0 0) 1 info.max_nrec_size) c ≡ cells 101 (accepted (table_figures info))
table_told [] c info long columns e = absurd (omega arith)
table_told (_ ∷ []) c info long columns e = absurd (omega arith)
table_told (_ ∷ _ ∷ rest) c info long columns e =
    let short : length rest ≤ 99 = omega arith in
    let none_left : drop 99 rest ≡ [] = drop_of_length-le rest short in
    let figures : 101 ≡ suc (length (info.max_nrec_size ∷ c)) + 0 = omega arith in
    rw (none_left, ← e, cells_accepted 101 (info.max_nrec_size ∷ c) 0 figures)
