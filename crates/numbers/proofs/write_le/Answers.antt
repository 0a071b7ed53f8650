-- The loop of `write_le` stores one byte more.
use Rattle.numbers.proofs.Writing.{written_turn}
use Rattle.numbers.proofs.write_le.Goals as goal

pub loop-byte-preserved : goal.loop-byte-preserved
loop-byte-preserved c = search written_turn
