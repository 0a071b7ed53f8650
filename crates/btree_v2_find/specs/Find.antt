-- What finding a record by its key answers, of any file: document 02, "One" and "Two".
use Rattle.std.specs.Prelude.{ℕ, zero, suc, ◌+◌, not, List, [], ◌∷◌, ◌++◌, ltb, eqb}
use Rattle.numbers.specs.Numbers.{pick}
use Rattle.refusal.specs.Answer.{Answer, accepted, refused, or_else, if_accepted, cells}
use Rattle.node_info.specs.declared.Geometry.{Geometry}
use Rattle.field.specs.declared.Field.{Field}
use Rattle.field.specs.Field.{number_field, number_at}
use Rattle.read_checks.specs.Base.{on_part}
use Rattle.read_checks.specs.Tests.{no_records, root_test}
use Rattle.btree_v2_header.specs.declared.BTreeV2Header.{BTreeV2Header}
use Rattle.btree_v2_collect.specs.Walk.{Tests, record_place}
use Rattle.btree_v2_collect.specs.InFile.{at_child}
use Rattle.btree_v2_collect.specs.Collect.{collect_tests}

-- The first of two lists, the second where that is empty.
abbrev pub one_of : List ℕ → List ℕ → List ℕ
one_of [] ys = ys
one_of (x ∷ xs) ys = x ∷ xs

-- By the keys that numbers or places have, and the key x that is sought.
module _ (key : ℕ → ℕ) (x : ℕ) where
  -- The first of the n numbers from i on whose key is not below x; i + n where there is none.
  unfoldable pub bound_from : ℕ → ℕ → ℕ
  bound_from zero i = i
  bound_from (suc n) i = let later = bound_from n (i + 1) in pick (ltb (key i) x) later i

  -- This place, where its key is x.
  abbrev pub if_key : ℕ → List ℕ
  if_key p = pick (eqb (key p) x) (p ∷ []) []

  -- The last of these places whose key is x: a list of one, or of none.
  unfoldable pub last_with : List ℕ → List ℕ
  last_with [] = []
  last_with (p ∷ ps) = one_of (last_with ps) (if_key p)

-- A descent: how it ended, the places of the bounding records on it, from the root down, and the nodes read.
pub record Descent : Type 0 where
  pub ends : Answer
  pub bounds : List ℕ
  pub nodes : ℕ

-- At its end, with nothing read.
abbrev pub ended : Answer → Descent
ended a = record { ends = a; bounds = []; nodes = 0 }

-- What follows where a test accepts; its refusal ends the descent.
abbrev pub on_passed : Answer → Descent → Descent
on_passed (accepted figures) next = next
on_passed (refused number values) next = ended (refused number values)

-- What follows behind a node that was read and has the bounding records ps: one, or none.
abbrev pub behind : List ℕ → Descent → Descent
behind ps next = record { ends = next.ends; bounds = ps ++ next.bounds; nodes = 1 + next.nodes }

module _ (file : List ℕ) (g : Geometry) (f : Field) (x : ℕ) where
  -- The number of the record that bounds the child taken in the node at a with n records: the first whose key is not below x; n where there
  -- is none.
  unfoldable pub bound : ℕ → ℕ → ℕ
  bound a n = bound_from (λ i. number_at file f (record_place g a i)) x n 0

  -- Its place, where there is one.
  unfoldable pub bounding : ℕ → ℕ → List ℕ
  bounding a n = let i = bound a n in pick (ltb i n) (record_place g a i ∷ []) []

  -- The descent from the node of level d at a with n records on, by the tests of a leaf and of an internal node.
  module _ (tests : Tests) where
    unfoldable pub descent : ℕ → ℕ → ℕ → Descent
    descent zero a n = on_passed (tests.leaf a n) (behind (bounding a n) (ended (accepted [])))
    descent (suc d) a n =
        on_passed (tests.internal d a n) (behind (bounding a n) (at_child file g (descent d) d a n (bound a n)))

-- Refusal 17 where the key has not 1 to 8 bytes or runs past the end of a record of rs bytes.
unfoldable pub key_test : Field → ℕ → Answer
key_test f rs = or_else (number_field f rs) (refused 17 []) (accepted [])

-- Finding the key x, a number in the field f, in the tree of a header.
unfoldable pub descended : List ℕ → BTreeV2Header → Field → ℕ → Descent
descended file h f x =
    let g = h.geometry in
    or_else (not (no_records h.total_records h.num_records_in_root)) (ended (accepted []))
    (on_passed (root_test g.record_size h.depth)
    (on_passed (key_test f g.record_size)
    (descent file g f x (collect_tests file g) h.depth h.root_node_address h.num_records_in_root)))

-- The place found: that of the last bounding record whose key is x. None where the descent was refused.
unfoldable pub place_found : List ℕ → Field → ℕ → Descent → List ℕ
place_found file f x r = if_accepted r.ends (last_with (number_at file f) x r.bounds) []

-- 1 and the place, or zeros.
abbrev pub place_cells : List ℕ → List ℕ
place_cells [] = 0 ∷ 0 ∷ []
place_cells (p ∷ ps) = 1 ∷ p ∷ []

-- A descent as the call gives it: number and two values, the nodes read, found or not and the place.
unfoldable pub find_cells : List ℕ → Field → ℕ → Descent → List ℕ
find_cells file f x r = cells 3 r.ends ++ (r.nodes ∷ place_cells (place_found file f x r))

-- What finding answers, as numbers.
abbrev pub found : List ℕ → BTreeV2Header → Field → ℕ → List ℕ
found file h f x = find_cells file f x (descended file h f x)

-- Finding in the part of the file from the header's base on, in which the place is counted too; 18 where there is no such part.
unfoldable pub found_at : List ℕ → BTreeV2Header → Field → ℕ → List ℕ
found_at file h f x = on_part file h.base (find_cells file f x (ended (refused 18 []))) (λ p. found p h f x)
