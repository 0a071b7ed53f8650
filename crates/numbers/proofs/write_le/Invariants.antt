-- The loop of `write_le`: the lowest bytes of x are stored, and the rest of x is left.
use Rattle.numbers.proofs.Writing.{Written}
use Rattle.numbers.proofs.write_le.Given as goal

abbrev pub invariant-loop-byte : goal.invariant-loop-byte
invariant-loop-byte l = Written l.initial.byte-items l.fn.x l.byte-items l.rest l.byte-index
