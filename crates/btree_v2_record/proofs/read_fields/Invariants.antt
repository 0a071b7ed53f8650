-- The loop of `read_fields`: the numbers so far stand at their places.
use Rattle.std.proofs.Common.{◌≡◌, ◌+◌, [], ◌∷◌, length, drop}
use Rattle.btree_v2_record.specs.Answers.{values_of}
use Rattle.btree_v2_record.specs.Records.{record_length}
use Rattle.btree_v2_record.specs.Steps.{fields_of, filled}
use Rattle.btree_v2_record.proofs.read_fields.Given as goal

abbrev pub invariant-loop-field : goal.invariant-loop-field
invariant-loop-field l = record {
  place : l.at + record_length (fields_of (drop l.field-index l.fields)) ≡ length l.record;
  leads : filled (fields_of (drop l.field-index l.fields)) (drop l.at l.record) (values_of l.values) ≡ filled (fields_of l.fields) l.record (0 ∷ 0 ∷ 0 ∷ 0 ∷ []);
}
