use Rattle.std.proofs.Common.{◌≡◌, take, []}
use Rattle.csv.specs.Records.{fields_of, partial_of}
use Rattle.sdb_schema.specs.Table.{column_names}
use Rattle.sdb_data.proofs.print.header_of.Given as goal

abbrev pub invariant-loop-column : goal.invariant-loop-column
invariant-loop-column l = record {
  fields : fields_of l.fields ≡ column_names (take l.column-index l.columns);
  whole : partial_of l.fields ≡ [];
}
