-- A leaf that passes its tests has its records; and how its tests answer.
use mathlib.Core.Path.{◌≡◌}
use mathlib.Core.List.{List}
use Prim.Native.Nat.{ℕ, ◌+◌, ◌*◌, ◌≤◌}
use native.Mathlib.Omega.{arith}
use lib.Dec.{leb}
use lib.ListN.{length}
use Rattle.refusal.specs.Answer.{accepted}
use Rattle.format.specs.Bytes.{leaf_signature, records_end}
use Rattle.read_checks.specs.Tests.{front_test}
use Rattle.read_checks.proofs.Plain.{Plain, refuses, plain_or, plain_on, front_plain, checksum_plain}
use Rattle.btree_v2_leaf.specs.Leaf.{leaf_body, leaf_test}
use Rattle.refusal.proofs.Answers.{both_accepted}
use Rattle.read_checks.proofs.Passing.{there}

module _ (file : List ℕ) (rs a n : ℕ) where
  pub leaf_there : (figures : List ℕ) → leaf_test file rs a n ≡ accepted figures → a + 6 + n * rs ≤ length file
  unfolding leaf_test leaf_body
  leaf_there figures e =
      let p = both_accepted e in
      omega (arith, (there (a + records_end rs n) (length file) figures _ p.2).0)

  pub leaf_plain : Plain (leaf_test file rs a n)
  unfolding leaf_test leaf_body
  leaf_plain =
      plain_on (front_test file leaf_signature a) (front_plain file leaf_signature a)
      (plain_or (leb (a + records_end rs n) (length file)) (refuses 1 (omega arith))
      (plain_or (leb (a + records_end rs n + 4) (length file)) (refuses 1 (omega arith)) (checksum_plain file a (a + records_end rs n))))
