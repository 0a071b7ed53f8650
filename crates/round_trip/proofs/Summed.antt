-- Bytes that stand in a file with their checksum pass its test.
use mathlib.Core.Path.{◌≡◌, refl}
use mathlib.Core.List.{List}
use Prim.Native.Nat.{ℕ, ◌+◌, ◌-◌, ◌^◌, ◌<◌}
use native.Mathlib.Omega.{arith}
use lib.ListN.{length}
use borrow.Author.Tests.{eq-eqb}
use Rattle.checksum.specs.Lookup3.{lookup3}
use Rattle.numbers.specs.Numbers.{le}
use Rattle.refusal.specs.Answer.{Answer}
use Rattle.format.specs.Bytes.{summed}
use Rattle.read_checks.specs.Tests.{checksum_test}
use Rattle.numbers.proofs.Standing.{Stand, stand_left, stand_right, stand_num}

-- Bytes with their checksum after them.
module _ (sum_fits : (xs : List ℕ) → lookup3 xs < 256 ^ 4) (file b : List ℕ) (p : ℕ) (h : Stand file p (summed b)) where
  pub checksum_passes : (rest : Answer) → checksum_test file p (p + length b) rest ≡ rest
  unfolding checksum_test summed
  checksum_passes rest =
      let e : p + length b - p ≡ length b = omega arith in
      rw (e, stand_left file p b (le 4 (lookup3 b)) h, stand_num file (p + length b) 4 (lookup3 b) (stand_right file p b (le 4 (lookup3 b)) h) (sum_fits b), eq-eqb (lookup3 b) (lookup3 b) refl)
