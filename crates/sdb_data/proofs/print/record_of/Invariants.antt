use Rattle.std.proofs.Common.{◌≡◌, map, take, []}
use Rattle.csv.specs.Records.{fields_of, partial_of}
use Rattle.sdb_data.specs.Fields.{field_of}
use Rattle.sdb_data.proofs.print.record_of.Given as goal

abbrev pub invariant-loop-value : goal.invariant-loop-value
invariant-loop-value l = record {
  fields : fields_of l.fields ≡ map field_of (take l.value-index l.row);
  whole : partial_of l.fields ≡ [];
}
