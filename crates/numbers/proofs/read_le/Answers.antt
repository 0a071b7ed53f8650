-- `read_le` folds the bytes that there are, the highest first.
use mathlib.Core.Path.{◌∙◌}
use native.Mathlib.Omega.{arith}
use Rattle.std.proofs.Common.{rules, min, length-take}
use Rattle.std.proofs.lemmas.Iterator.Adapters.{YieldsList-from_rev_slice}
use Rattle.std.proofs.lemmas.Iterator.Consumers.{fold_from_yields_List}
use Rattle.numbers.specs.Numbers.{part, num}
use Rattle.numbers.proofs.Numbers.{part_bytes}
use Rattle.numbers.proofs.Reading.{joined_below, read_back}
use Rattle.numbers.proofs.read_le.Goals as goal

pub returns : goal.returns
unfolding num
returns c =
    let l = c.args.data.now in
    let bytes = part l c.args.at (min c.args.width 8) in
    fold_from_yields_List _ joined_below _ _ c.fold.ensures.ran (YieldsList-from_rev_slice bytes cc) (λ a x b q k. search rules) ∙
    read_back bytes (simp length-take (omega arith)) (part_bytes l _ _ (λ i. omega (arith, c.type_inv.data i)))
