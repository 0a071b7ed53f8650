-- `all_fit`: what the iterator tests of each field.
use Rattle.std.proofs.Common.{ltb, ◌^◌, get_or, rules, tests, sym, ◌∙◌}
use Rattle.std.proofs.lemmas.Iterator.{YieldsList-from_slice}
use Rattle.std.proofs.lemmas.Iterator.Search.{all_from_yields_List}
use Rattle.btree_v2_record.specs.declared.layout.Field.{Field}
use Rattle.btree_v2_record.specs.Answers.{values_of}
use Rattle.btree_v2_record.specs.Steps.{place_of}
use Rattle.btree_v2_record.proofs.Fields.{fits_all}
use Rattle.btree_v2_record.proofs.all_fit.Goals as goal

pub returns : goal.returns
returns c =
    let fs = c.args.fields.now in
    let v = values_of c.args.values.now in
    all_from_yields_List (λ (f : Field). ltb (get_or v (place_of f.meaning) 0) (256 ^ f.width)) _ _ c.all.result c.all.ensures.ran
    (YieldsList-from_slice fs cc) (λ x b q k. search (rules, tests))
    ∙ sym (fits_all fs v)
