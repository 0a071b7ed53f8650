-- The root is the plan's last node: its address and its records.
use mathlib.Core.Path.{◌≡◌, refl}
use mathlib.Core.List.{List}
use Prim.Native.Nat.{ℕ, zero, suc, ◌+◌, ◌-◌}
use native.Mathlib.Nat.{add-zero}
use native.Mathlib.Omega.{arith}
use lib.ListN.{length, get_or, length-append}
use lib.Seq.{get_or-append-add}
use Rattle.plan.specs.Tree.{Kids, last, more, Tree, sum_kids, count, below, nodes}
use Rattle.format.specs.Bytes.{address}
use Rattle.format.specs.declared.Request.{Request}
use Rattle.format.specs.Request.{depth_of, tree_of, nodes_of, root_of, root_records_of}
use Rattle.round_trip.specs.Nodes.{join_kids, counts, node_records}

length_join : {A : Type 0} (f : A → List ℕ) (g : A → ℕ) → ((t : A) → length (f t) ≡ g t) → (ts : Kids A) → length (join_kids f ts) ≡ sum_kids g ts
unfolding join_kids sum_kids
length_join f g h (last t) = h t
length_join f g h (more t ts) = rw (length-append, h t, length_join f g h ts)

-- There are as many counts as nodes.
counts_nodes : (d : ℕ) (t : Tree d) → length (counts d t) ≡ nodes d t
unfolding counts nodes below
counts_nodes zero n = refl
counts_nodes (suc d) ts = rw (length-append, length_join (counts d) (λ t. below d t + 1) (counts_nodes d) ts)

-- The last of them is the root's.
counts_last : (d : ℕ) (t : Tree d) → get_or (counts d t) (below d t) 0 ≡ count d t
unfolding counts count nodes below
counts_last zero n = refl
counts_last (suc d) ts =
    let e = length_join (counts d) (λ t. below d t + 1) (counts_nodes d) ts in
    rw (← add-zero (sum_kids (λ t. below d t + 1) ts), ← e, get_or-append-add)

module _ (q : Request) where
  pub root_address : address q (nodes_of q - 1) ≡ root_of q
  unfolding root_of nodes_of nodes address
  root_address =
      let tree = tree_of q in
      let e : below (depth_of q) tree + 1 - 1 ≡ below (depth_of q) tree = omega arith in
      rw e

  pub root_records_lem : node_records q (nodes_of q - 1) ≡ root_records_of q
  unfolding node_records root_records_of nodes_of nodes
  root_records_lem =
      let tree = tree_of q in
      let e : below (depth_of q) tree + 1 - 1 ≡ below (depth_of q) tree = omega arith in
      rw (e, counts_last (depth_of q) tree)
