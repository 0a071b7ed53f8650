-- The own records of a plan's nodes by their numbers, children first, root last. From document 01, "Planner" and "Header and node image".
use Rattle.std.specs.Prelude.{ℕ, zero, suc, List, [], ◌∷◌, ◌++◌, get_or}
use Rattle.plan.specs.Tree.{Kids, last, more, Tree, between}
use Rattle.format.specs.declared.Request.{Request}
use Rattle.format.specs.Request.{depth_of, tree_of}

-- The lists that f gives of the children, one after another.
unfoldable pub join_kids : {A : Type 0} → (A → List ℕ) → Kids A → List ℕ
join_kids f (last t) = f t
join_kids f (more t ts) = f t ++ join_kids f ts

-- Each node's own records, in the order of the nodes' numbers.
unfoldable pub counts : (d : ℕ) → Tree d → List ℕ
counts zero n = n ∷ []
counts (suc d) ts = join_kids (counts d) ts ++ (between ts ∷ [])

-- The records of node i of a write.
unfoldable pub node_records : Request → ℕ → ℕ
node_records q i = get_or (counts (depth_of q) (tree_of q)) i 0
