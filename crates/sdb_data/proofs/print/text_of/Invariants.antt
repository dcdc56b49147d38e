use Rattle.std.proofs.Common.{◌≡◌, ◌++◌, Some, take}
use Rattle.std.specs.List.{flat_map}
use Rattle.csv.specs.Records.{fields_of}
use Rattle.csv.specs.Writing.{row_text}
use Rattle.sdb_data.specs.Lenient.{AreWhole, lenient, written}
use Rattle.sdb_data.specs.Printed.{fields_of_row}
use Rattle.sdb_data.proofs.print.text_of.Given as goal

abbrev pub invariant-loop-row : goal.invariant-loop-row
invariant-loop-row l = AreWhole l.wtr
    × (written l.wtr ≡ Some (row_text lenient (fields_of l.header) ++ flat_map (λ row. row_text lenient (fields_of_row row)) (take l.row-index l.rows)))
