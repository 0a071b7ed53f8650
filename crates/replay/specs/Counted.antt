-- A tally with one answer more.
use Rattle.std.specs.Prelude.{Bool, true, false, ◌+◌}
use Rattle.replay.specs.declared.tally.Tally.{Tally}

abbrev pub counted : Bool → Tally → Tally
counted true t = record { agreed = t.agreed + 1; differed = t.differed }
counted false t = record { agreed = t.agreed; differed = t.differed + 1 }
