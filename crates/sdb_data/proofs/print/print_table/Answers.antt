use Rattle.std.proofs.Common.{◌∙◌, ap}
use Rattle.csv.specs.Records.{fields_of}
use Rattle.sdb_schema.specs.Table.{column_names}
use Rattle.sdb_data.proofs.Lenient.{printed-is}
use Rattle.sdb_data.proofs.print.print_table.Goals as goal

pub returns : goal.returns
returns c =
    c.from_vec.ensures ∙ c.in_ok-text_of.ensures
    ∙ rw c.as_slice-2.ensures (printed-is c.args.table.now (fields_of c.in_ok-header.header) c.args.rows.now (c.in_ok-header.ensures ∙ ap column_names c.as_slice.ensures))
