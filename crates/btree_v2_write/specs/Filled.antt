-- Fields put into a node from a place on, no more of them than may still be put.
use Rattle.std.specs.Prelude.{◌≡◌, List, ℕ, ◌+◌, ◌-◌, length, take}
use Rattle.std.specs.Borrow.{MutBor}
use Rattle.numbers.specs.Places.{stored, joined}
use Rattle.btree_v2_write.specs.declared.filling.Filling.{Filling}

-- At the front of a node, where no field was put yet.
abbrev pub start : MutBor (List ℕ) → ℕ → Filling
start node budget = record { node = node; at = 0; left = budget }

-- The first of these fields, as many as may still be put, are stored one after another from the place on, and all else is as it was. The place
-- then reached is that after all of them, put or not.
pub record Filled (from : Filling) (fields : List (List ℕ)) (to : Filling) : Type 0 where
  pub same : to.node.ghost_name ≡ from.node.ghost_name
  pub bytes : to.node.now ≡ stored from.node.now from.at (joined (take from.left fields))
  pub place : to.at ≡ from.at + length (joined fields)
  pub left : to.left ≡ from.left - length fields

-- So many fields, of so many bytes in all, are passed over.
pub record Passed (from : Filling) (fields bytes : ℕ) (to : Filling) : Type 0 where
  pub same : to.node ≡ from.node
  pub place : to.at ≡ from.at + bytes
  pub left : to.left ≡ from.left - fields
