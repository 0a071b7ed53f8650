-- The loop of `put_fields`: the fields so far are put, and the place is where they end.
use Rattle.std.proofs.Common.{◌≡◌, ◌+◌, ◌≤◌, length, drop}
use Rattle.numbers.specs.Places.{stored}
use Rattle.btree_v2_record.specs.Answers.{values_of}
use Rattle.btree_v2_record.specs.Records.{record_length, record_bytes}
use Rattle.btree_v2_record.specs.Steps.{fields_of}
use Rattle.btree_v2_record.proofs.put_fields.Given as goal

abbrev pub invariant-loop-field : goal.invariant-loop-field
invariant-loop-field l = record {
  room : l.at + record_length (fields_of (drop l.field-index l.fields)) ≤ length l.output;
  leads : stored l.output l.at (record_bytes (fields_of (drop l.field-index l.fields)) (values_of l.values))
      ≡ stored l.initial.output 0 (record_bytes (fields_of l.fields) (values_of l.values));
}
