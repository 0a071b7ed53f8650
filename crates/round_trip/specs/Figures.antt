-- The figures of document 01 that are marked P, as one table: what the definitions give, beside what the document says.
use Rattle.std.specs.Prelude.{ℕ, zero, suc, ◌+◌, List, [], ◌∷◌, length, take, map}
use Rattle.checksum.specs.Lookup3.{lookup3}
use Rattle.numbers.specs.Numbers.{width}
use Rattle.refusal.specs.Answer.{cells}
use Rattle.node_info.specs.declared.Geometry.{Geometry}
use Rattle.node_info.specs.declared.Level.{Level}
use Rattle.node_info.specs.Table.{info_at}
use Rattle.plan.specs.Tree.{Kids, last, more, Tree, size}
use Rattle.plan.specs.Planned.{plan_depth, planned, plan_answer}
use Rattle.format.specs.Request.{header_from}
use Rattle.round_trip.specs.Nodes.{counts}

-- The numbers of the records between children, if the first child's records begin with record r and each has size s.
unfoldable pub between_from : {A : Type 0} → (A → ℕ) → ℕ → Kids A → List ℕ
between_from s r (last t) = []
between_from s r (more t ts) = (r + s t) ∷ between_from s (r + s t + 1) ts

-- The numbers of the root's own records.
unfoldable pub root_records : (d : ℕ) → Tree d → List ℕ
root_records zero n = []
root_records (suc d) ts = between_from (size d) 0 ts

-- The geometry of these sizes.
abbrev pub geometry : (ns rs ow : ℕ) → Geometry
geometry ns rs ow = record { node_size = ns; record_size = rs; offset_size = ow }

-- The planner's answer in five numbers: 0, depth, nodes, leaves, image size; or the refusal's number and values.
unfoldable pub plan : (n rs ns ow : ℕ) → List ℕ
plan n rs ns ow = cells 5 (plan_answer n (geometry ns rs ow))

-- The bytes of a header with these offset and length sizes.
unfoldable pub header_length : (ow lw : ℕ) → ℕ
header_length ow lw =
    length
    (header_from
    (record { tree_type = 5; record_count = 0; geometry = geometry 512 11 ow; length_size = lw; start = 0 }))

-- The arguments of a plan are N, RS, NS, OW, those of a table NS, RS, OW and its depth.
unfoldable pub figures : List (List ℕ × List ℕ)
figures =
    (width 0 ∷ width 255 ∷ width 256 ∷ width 65535 ∷ width 65536 ∷ [], 1 ∷ 1 ∷ 2 ∷ 2 ∷ 3 ∷ [])
    ∷ (take 4 (map (λ (l : Level). l.max_nrec) (info_at (geometry 512 11 8) 3).levels), 45 ∷ 24 ∷ 22 ∷ 22 ∷ [])
    ∷ (take 4 (map (λ (l : Level). l.cum_max_nrec) (info_at (geometry 512 11 8) 3).levels), 45 ∷ 1149 ∷ 26449 ∷ 608349 ∷ [])
    ∷ (take 3 (map (λ (l : Level). l.cum_max_nrec) (info_at (geometry 40 8 8) 2).levels), 3 ∷ 7 ∷ 15 ∷ [])
    ∷ (plan 3 8 40 8, 0 ∷ 0 ∷ 1 ∷ 1 ∷ 40 ∷ [])
    ∷ (plan 4 8 40 8, 0 ∷ 1 ∷ 3 ∷ 2 ∷ 120 ∷ [])
    ∷ (counts (plan_depth 4 (geometry 40 8 8)) (planned 4 (geometry 40 8 8)), 2 ∷ 1 ∷ 1 ∷ [])
    ∷ (counts (plan_depth 8 (geometry 40 8 8)) (planned 8 (geometry 40 8 8)), 2 ∷ 1 ∷ 1 ∷ 1 ∷ 1 ∷ 1 ∷ 1 ∷ [])
    ∷ (root_records (plan_depth 8 (geometry 40 8 8)) (planned 8 (geometry 40 8 8)), 4 ∷ [])
    ∷ (plan 2 8 26 8, 0 ∷ 0 ∷ 1 ∷ 1 ∷ 26 ∷ [])
    ∷ (plan 3 8 26 8, 10 ∷ 1 ∷ 0 ∷ 0 ∷ 0 ∷ [])
    ∷ (plan 1 20 48 8, 0 ∷ 0 ∷ 1 ∷ 1 ∷ 48 ∷ [])
    ∷ (plan 2 20 48 8, 11 ∷ 0 ∷ 0 ∷ 0 ∷ 0 ∷ [])
    ∷ (plan 3 20 48 8, 0 ∷ 1 ∷ 3 ∷ 2 ∷ 144 ∷ [])
    ∷ (plan 4 20 48 8, 10 ∷ 2 ∷ 0 ∷ 0 ∷ 0 ∷ [])
    ∷ (plan 0 8 10 8, 0 ∷ 0 ∷ 1 ∷ 1 ∷ 10 ∷ [])
    ∷ (plan 0 8 9 8, 7 ∷ 9 ∷ 0 ∷ 0 ∷ 0 ∷ [])
    ∷ (header_length 8 8 ∷ header_length 2 2 ∷ [], 38 ∷ 26 ∷ [])
    ∷ (lookup3 [] ∷ [], 0xdeadbeef ∷ [])
    ∷ []
