-- The loop of `jenkins_lookup3`: what is left to do with the rest gives the checksum of the whole.
use Rattle.std.proofs.Common.{◌≡◌, length}
use Rattle.checksum.specs.Lookup3.{blocks, lookup3}
use Rattle.checksum.proofs.jenkins_lookup3.Given as goal

abbrev pub invariant-loop-rest : goal.invariant-loop-rest
invariant-loop-rest l = blocks (length l.rest) l.words l.rest ≡ lookup3 l.data

abbrev pub decreases-loop-rest : goal.decreases-loop-rest
decreases-loop-rest l = length l.rest
