-- The three calls, one after another.
use native.Mathlib.Omega.{arith}
use Rattle.round_trip.proofs.Claims.{answered}
use Rattle.round_trip.proofs.round_trip.Goals as goal

pub returns : goal.returns
returns c =
    answered (omega (arith, c.well_formed.0)) c.write-written.ensures c.parse-parsed.ensures c.collect_parsed-collected.ensures
