-- Counting a subtree by its children's two numbers of records, in the forms in which the code has them.
use mathlib.Core.Path.{◌≡◌, refl, ap, ◌∙◌}
use mathlib.Core.Bool.{false}
use mathlib.Core.Logic.{⊎_elim}
use Prim.Native.Nat.{ℕ, suc, min, ◌+◌, ◌-◌, ◌*◌, ◌/◌, ◌%◌, ◌^◌, ◌≤◌, ◌<◌}
use native.Mathlib.Nat.{one-mul, eq-zero-or-pos, one-le-pow, zero-mul, zero-div, zero-mod, div-le_self}
use native.Mathlib.Omega.{arith}
use lib.Dec.{ltb, lit<}
use lib.Pow.{shl_exact}
use Rattle.node_info.specs.declared.Level.{Level}
use Rattle.node_info.specs.Table.{no_level}
use lib.ListN.{length, get_or-append, length-append}
use lib.Seq.{get_or-append_seam}
use mathlib.Core.List.{List, [], ◌∷◌, ◌++◌}
use Rattle.plan.specs.Steps.{capacity_in, over_children, Countable, Counted, FewChildren}
use Rattle.plan.specs.Tree.{below, nodes, leaves}
use Rattle.plan.specs.Planned.{taken, keeping, distribution, plan_tree, thin}
use Rattle.plan.specs.declared.Distribution.{Distribution}
use Rattle.plan.specs.declared.Counts.{Counts}
use Rattle.plan.proofs.Distributing.{share, extra, taken_pos, taken_le, extra_lt, all_children_more, all_children_less}
use Rattle.plan.proofs.Plans.{plan_agree, thin_agree, plan_nodes, plan_leaves, plan_nodes_le}
use Rattle.plan.proofs.Thin.{thin_pos, thin_children}
use Rattle.plan.proofs.Trees.{leaves_le_nodes}

-- The powers of two up to 2^33 in a word, and the test for a thin root.
power : (d : ℕ) → d ≤ 32 → 1 * 2 ^ (d + 1) % 2 ^ 64 ≡ 2 ^ (d + 1)
power d h = shl_exact {a = 1} 1 (d + 1) 64 (lit< tt) (omega arith) ∙ one-mul (2 ^ (d + 1))

pub power_pos : (d : ℕ) → d ≤ 32 → 1 ≤ 1 * 2 ^ (d + 1) % 2 ^ 64
power_pos d h = rw (power d h) (one-le-pow (d + 1) 2 (lit< tt))

pub thin_test : (d n : ℕ) → d ≤ 32 → ltb n (1 * 2 ^ (d + 1) % 2 ^ 64 - 1) ≡ ltb n (2 ^ (d + 1) - 1)
thin_test d n h = rw (power d h)

-- What a node distributes: only where all is kept may the children be too many to be counted, and then nothing is left for them.
pub keeping_lem : (k m : ℕ) → k + m < 2 ^ 64
    → ◌≡◌ {A = Distribution} (record { kept = k; base = m / min (k + 1) (2 ^ 64 - 1); extra = m % min (k + 1) (2 ^ 64 - 1) }) (keeping k m)
keeping_lem k m h =
    ⊎_elim
    (λ (none : m ≡ 0). rw (none, zero-div, zero-div, zero-mod, zero-mod))
    (λ (some : 0 < m). let few : min (k + 1) (2 ^ 64 - 1) ≡ k + 1 = omega arith in rw few)
    (eq-zero-or-pos m)

-- A leaf.
pub count_leaf : (b : List Level) (n : ℕ) → length b ≡ 0 → Counted b n (record { nodes = 1; leaves = 1 })
unfolding nodes below leaves
count_leaf [] n e = record { «nodes» = refl; «leaves» = refl; few_nodes = lit< tt; few_leaves = lit< tt }
count_leaf (x ∷ xs) n e = absurd (omega arith)

-- An internal node whose children are of level u.
module _ (c : ℕ → ℕ) (u n : ℕ) (few : n < 2 ^ 24) (thick : thin c (suc u) n ≡ false) where
  some : 1 ≤ n
  some = thin_pos c (suc u) n thick

  kept : taken (c u) n ≤ n
  kept = taken_le (c u) n some

  child_small : share (c u) n + 1 < 2 ^ 24
  child_small =
      omega (arith, kept, taken_pos (c u) n, div-le_self (n - taken (c u) n) (taken (c u) n + 1))

  less_thick : thin c u (share (c u) n) ≡ false
  less_thick = all_children_less (λ x. thin c u x ≡ false) (c u) n (thin_children c u n thick)

  more_thick : (extra (c u) n ≡ 0 → ⊥) → thin c u (share (c u) n + 1) ≡ false
  more_thick ne = all_children_more (λ x. thin c u x ≡ false) (c u) n (omega arith) (thin_children c u n thick)

-- The same where the children's level stands last of those below the root.
module _ (b lower : List Level) (child : Level) (e : b ≡ lower ++ (child ∷ [])) where
  long : length b ≡ suc (length lower)
  long = rw (e, length-append) (omega arith)

  top : capacity_in b (length lower) ≡ child.cum_max_nrec
  top = rw e (ap (λ (l : Level). l.cum_max_nrec) (get_or-append_seam lower child [] no_level))

  agree : (u : ℕ) → u < length lower → capacity_in b u ≡ capacity_in lower u
  agree u h = rw e (ap (λ (l : Level). l.cum_max_nrec) (get_or-append lower (child ∷ []) no_level u h))

  module _ (n : ℕ) (h : Countable b n) (x : Distribution) (hx : x ≡ distribution child.cum_max_nrec n) where
    abbrev c : ℕ → ℕ
    c = capacity_in b

    abbrev d : ℕ
    d = length lower

    thick : thin c (suc d) n ≡ false
    thick = rw long at (h.thick (omega (arith, long)))

    is : x ≡ distribution (c d) n
    is = rw top hx

    pub less_asks : Countable lower x.base
    less_asks =
        record {
          few = rw is (omega (arith, child_small c d n h.few thick));
          thick = λ _. rw (← thin_agree c (capacity_in lower) d x.base agree, is) (less_thick c d n h.few thick);
        }

    pub more_asks : (x.extra ≡ 0 → ⊥) → Countable lower (x.base + 1)
    more_asks ne =
        record {
          few = rw is (child_small c d n h.few thick);
          thick = λ _. rw (← thin_agree c (capacity_in lower) d (x.base + 1) agree, is) (more_thick c d n h.few thick (rw is at ne));
        }

    kept_few : x.kept < 2 ^ 24
    kept_few = rw is (omega (arith, kept c d n h.few thick, h.few))

    extra_few : x.extra ≤ x.kept
    extra_few = rw is (omega (arith, extra_lt (c d) n))

    module _ (smaller : Counts) (less : Counted lower x.base smaller) where
      pub few_children : (m : ℕ) (larger : Counts) → Counted lower m larger → FewChildren x larger smaller
      few_children m larger more =
          record {
            kept = kept_few;
            extra = extra_few;
            larger_nodes = more.few_nodes;
            larger_leaves = more.few_leaves;
            smaller_nodes = less.few_nodes;
            smaller_leaves = less.few_leaves;
          }

      module _ (all larger : Counts)
          (hn : all.nodes ≡ over_children x larger.nodes smaller.nodes + 1)
          (hl : all.leaves ≡ over_children x larger.leaves smaller.leaves) where
        counted : x.extra * larger.nodes ≡ x.extra * nodes d (plan_tree c d (x.base + 1))
            → x.extra * larger.leaves ≡ x.extra * leaves d (plan_tree c d (x.base + 1))
            → Counted b n all
        counted ln ll =
            let tree = plan_agree c (capacity_in lower) d x.base agree in
            let less_nodes : smaller.nodes ≡ nodes d (plan_tree c d x.base) = rw tree less.«nodes» in
            let less_leaves : smaller.leaves ≡ leaves d (plan_tree c d x.base) = rw tree less.«leaves» in
            let all_nodes : all.nodes ≡ nodes (suc d) (plan_tree c (suc d) n) = rw (hn, ln, less_nodes, is, plan_nodes c d n) in
            let all_leaves : all.leaves ≡ leaves (suc d) (plan_tree c (suc d) n) = rw (hl, ll, less_leaves, is, plan_leaves c d n) in
            let few = plan_nodes_le c (suc d) n thick in
            record {
              «nodes» = rw long all_nodes;
              «leaves» = rw long all_leaves;
              few_nodes = omega (arith, h.few);
              few_leaves = omega (arith, h.few, leaves_le_nodes (suc d) (plan_tree c (suc d) n));
            }

        pub count_one : x.extra ≡ 0 → Counted b n all
        count_one none = counted (rw (none, zero-mul, zero-mul)) (rw (none, zero-mul, zero-mul))

        pub count_two : Counted lower (x.base + 1) larger → Counted b n all
        count_two more =
            let tree = plan_agree c (capacity_in lower) d (x.base + 1) agree in
            counted (rw (tree, more.«nodes»)) (rw (tree, more.«leaves»))
