-- The loop of `copy`: the bytes before byte i are copied.
use Rattle.std.proofs.Common.{◌≡◌, ℕ, ◌<◌, get_or}
use Rattle.btree_v2_write.proofs.filling.copy.Given as goal

abbrev pub invariant-loop-i : goal.invariant-loop-i
invariant-loop-i l = (k : ℕ) → k < l.i → get_or l.to k 0 ≡ get_or l.from k 0
