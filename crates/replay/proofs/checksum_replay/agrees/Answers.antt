-- The input of length n is the front of the longest.
use Rattle.std.proofs.lemmas.List.FromFn.{take-map-range_with_len}
use Rattle.replay.specs.Inputs.{byte_of, bytes_of}
use Rattle.replay.proofs.checksum_replay.agrees.Goals as goal

pub returns : goal.returns
unfolding bytes_of
returns c = rw (c.jenkins_lookup3.ensures, c.input-bytes.ensures, take-map-range_with_len (byte_of c.args.n) 0 60 c.args.n c.requires)
