use Rattle.std.proofs.Common.{◌≡◌, ◌∷◌, ◌++◌, ◌∙◌, List, map, ap}
use Rattle.csv.specs.Records.{Row, fields_of}
use Rattle.sdb_types.specs.declared.value.Value.{Value}
use Rattle.sdb_schema.specs.declared.table.Column.{Column}
use Rattle.sdb_data.specs.declared.header.ColumnFound.{ColumnFound}
use Rattle.sdb_data.specs.Tables.{named_row, row_of, columns_found}
use Rattle.sdb_data.proofs.Lists.{mapped}
use Rattle.sdb_data.proofs.read.rows_under.Goals as goal

pub returns-clause-rows : goal.returns-clause-rows
returns-clause-rows c =
    let accepted : c.as_slice-3.result.now ≡ columns_found c.args.table.now.columns c.args.header.now = c.as_slice-3.ensures ∙ c.in_ok-accepted.ensures ∙ ap (λ (cs : List Column). columns_found cs c.args.header.now) c.as_slice.ensures in
    c.in_ok-add_rows.ensures.rows
    ∙ ap (λ (front : List (List Value)). front ++ map (λ (r : Row). row_of c.as_slice-3.result.now (fields_of r)) c.args.records.now) c.in_ok-rows.ensures
    ∙ ap (λ (t : List ColumnFound). named_row c.args.table.now.columns c.args.header.now ∷ map (λ (r : Row). row_of t (fields_of r)) c.args.records.now) accepted
    ∙ ap (λ (rest : List (List Value)). named_row c.args.table.now.columns c.args.header.now ∷ rest) (mapped (row_of (columns_found c.args.table.now.columns c.args.header.now)) fields_of c.args.records.now)
