-- What libraries above cite of the checksum, and all that they cite: the definition by its name, a bound, and the right to compute.
use Rattle.std.proofs.Common.{ℕ, ◌^◌, ◌<◌, List}
use Rattle.checksum.specs.Lookup3.{rotated, mix_line_of, mixed, final_line_of, final_mixed, started, word, block_added, ended, blocks}
use Rattle.checksum.proofs.Bounds.{bounded}
unfoldable pub use Rattle.checksum.specs.Lookup3.{lookup3}

-- Every checksum is a 32-bit word.
pub lookup3_lt : (d : List ℕ) → lookup3 d < 2 ^ 32
lookup3_lt d = bounded d

-- The checksum as it computes: under `unfolding computed`, `lookup3` of given bytes is its number.
unfoldable pub computed : List ℕ → ℕ
unfolding rotated mix_line_of mixed final_line_of final_mixed started word block_added ended blocks lookup3
computed d = lookup3 d
