-- The figures of document 01, computed.
use mathlib.Core.Path.{◌≡◌, refl}
use mathlib.Core.List.{List, map}
use Prim.Native.Nat.{ℕ}
use Rattle.checksum.proofs.Promise.{computed}
use Rattle.numbers.specs.Numbers.{field_size, width, least_from, le}
use Rattle.refusal.specs.Answer.{cells}
use Rattle.node_info.specs.Capacity.{leaf_capacity, count_width, internal_capacity, subtree_capacity, total_width, node_capacity}
use Rattle.node_info.specs.Table.{column_from, entries, level_at, info_at}
use Rattle.plan.specs.Tree.{sum_kids, between, count, size, below, nodes, leaves}
use Rattle.plan.specs.Planned.{taken, distributed, children, kids_of, plan_tree, any_of, thin, plan_depth, empty_level, planned, plan_figures, plan_answer}
use Rattle.format.specs.Bytes.{summed, address, header_bytes}
use Rattle.format.specs.Request.{root_of, root_records_of, header_from}
use Rattle.round_trip.specs.Nodes.{join_kids, counts}
use Rattle.round_trip.specs.Figures.{between_from, root_records, plan, header_length, figures}

pub figures_hold : map (λ (r : List ℕ × List ℕ). r.0) figures ≡ map (λ (r : List ℕ × List ℕ). r.1) figures
unfolding computed le summed address header_bytes root_of root_records_of header_from header_length count field_size width least_from cells
    leaf_capacity count_width internal_capacity subtree_capacity total_width node_capacity column_from entries level_at info_at
    sum_kids between size below nodes leaves taken distributed children kids_of plan_tree any_of thin plan_depth empty_level planned plan_figures plan_answer join_kids counts between_from root_records plan figures
figures_hold = refl
