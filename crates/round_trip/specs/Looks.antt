-- The records of a leaf put out as a look hands them out.
use Rattle.std.specs.Prelude.{ℕ, zero, suc, ◌+◌, List}
use Rattle.btree_v2_collect.specs.Walk.{Counts, Run, fine, and_then, put_bytes}

-- Puts the records from record i on out that are handed out one after another, n of them.
unfoldable pub put_each : ℕ → (ℕ → List ℕ) → ℕ → ℕ → Counts → List ℕ → Run
put_each rs hand zero i c o = fine c o
put_each rs hand (suc n) i c o = and_then (put_bytes rs (hand i) c o) (put_each rs hand n (i + 1))
