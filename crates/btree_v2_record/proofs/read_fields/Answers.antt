-- `read_fields`: a turn of the loop.
use Rattle.std.proofs.Common.{◌∙◌, sym, arith}
use Rattle.btree_v2_record.proofs.Fields.{length_left, filled_left}
use Rattle.btree_v2_record.proofs.read_fields.Goals as goal

pub loop-field-preserved : goal.loop-field-preserved
loop-field-preserved c =
    let fs = c.args.fields.now in
    let i = c.loop-field.field-index in
    record {
      place = omega (arith, length_left fs i c.field-item.result (omega arith));
      leads = sym (filled_left fs i c.field-item.result (omega arith) c.args.record.now _ _ c.loop-field.at _ c.read_le.ensures c.with-values.ensures) ∙ c.loop-field.invariant.leads;
    }
