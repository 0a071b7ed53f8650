-- The two calls for a record with the fields of a type are those for a record of the type.
use Rattle.std.proofs.Common.{◌≡◌, ℕ, true, List}
use Rattle.btree_v2_record.specs.Records.{field_table, is_in, fields_in, record_read, record_written, record_output}
use Rattle.btree_v2_record.specs.Steps.{fields_read, fields_written, fields_output}
use Rattle.btree_v2_record.proofs.Values.{table_each_once, filled_values}

module _ (t : ℕ) (known : is_in field_table t ≡ true) where
  pub read_in : (bytes : List ℕ) → record_read t bytes ≡ fields_read (fields_in field_table t) bytes
  unfolding record_read fields_read
  read_in bytes = rw (known, filled_values (fields_in field_table t) bytes (table_each_once t known))

  pub written_in : (values out : List ℕ) → record_written t values out ≡ fields_written (fields_in field_table t) values out
  unfolding record_written fields_written
  written_in values out = rw known

  pub output_in : (values out : List ℕ) → record_output t values out ≡ fields_output (fields_in field_table t) values out
  unfolding record_output fields_output
  output_in values out = rw (written_in values out)
