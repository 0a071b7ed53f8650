-- The descent's own steps: the record that bounds in a node, and how far a descent has come.
use Rattle.std.specs.Prelude.{◌≡◌, List, ℕ, ◌+◌, ltb, Option, Some, None}
use Rattle.numbers.specs.Numbers.{pick}
use Rattle.node_info.specs.declared.Geometry.{Geometry}
use Rattle.field.specs.declared.Field.{Field}
use Rattle.field.specs.Field.{number_at}
use Rattle.btree_v2_find.specs.Find.{Descent, one_of, last_with, bound}

-- The number of the record that bounds the child taken in the node at a with n records, where there is one.
abbrev pub bound_at : List ℕ → Geometry → Field → ℕ → ℕ → ℕ → Option ℕ
bound_at file g f x a n = let b = bound file g f x a n in pick (ltb b n) (Some b) None

-- The descent `whole` goes on as `rest`, behind k nodes, with the place kept of their bounding records.
pub record GoesOn (file : List ℕ) (f : Field) (x : ℕ) (whole rest : Descent) (k : ℕ) (kept : List ℕ) : Type 0 where
  pub ends : whole.ends ≡ rest.ends
  pub nodes : whole.nodes ≡ k + rest.nodes
  pub last : last_with (number_at file f) x whole.bounds ≡ one_of (last_with (number_at file f) x rest.bounds) kept
