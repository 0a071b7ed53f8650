-- A header's first eight numbers, of its nine.
use mathlib.Core.Path.{◌≡◌}
use mathlib.Core.List.{List}
use Prim.Native.Nat.{ℕ}
use lib.ListN.{take}
use Rattle.numbers.specs.Places.{put}
use Rattle.refusal.specs.Answer.{Answer, cells}
use Rattle.refusal.proofs.Answers.{cells_front}

pub header_put : (o : List ℕ) (a : Answer) {t n : List ℕ} → t ≡ cells 9 a → n ≡ put o 0 (take 8 t) → n ≡ put o 0 (cells 8 a)
header_put o a e is = rw (is, e, cells_front 8 a)
