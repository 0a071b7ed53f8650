-- `length_of`: the widths that the iterator adds up.
use Rattle.std.proofs.Common.{rules, tests, arith, ◌∙◌, sym}
use Rattle.std.proofs.lemmas.Iterator.{YieldsList-from_slice, YieldsList-from_map}
use Rattle.std.proofs.lemmas.Iterator.Consumers.{sum_by_from_yields_List, fits_by_from_yields_list}
use Rattle.btree_v2_record.specs.declared.layout.Field.{Field}
use Rattle.btree_v2_record.proofs.Fields.{length_sum, length_small}
use Rattle.btree_v2_record.proofs.length_of.Goals as goal

pub sum-requires-clause-fits : goal.sum-requires-clause-fits
sum-requires-clause-fits c =
    let fs = c.args.fields.now in
    fits_by_from_yields_list (λ (f : Field). f.width) fs c.map.result _
    (YieldsList-from_map _ (λ (f : Field). f.width) (YieldsList-from_slice fs cc) c.map.ensures.closure (λ x r q k. search (rules, tests)))
    (omega (arith, length_sum fs, length_small fs, c.told-fields))

pub returns : goal.returns
returns c =
    let fs = c.args.fields.now in
    sum_by_from_yields_List (λ (f : Field). f.width) fs c.map.result _ c.sum.ensures.ran
    (YieldsList-from_map _ (λ (f : Field). f.width) (YieldsList-from_slice fs cc) c.map.ensures.closure (λ x r q k. search (rules, tests)))
    ∙ sym (length_sum fs)
