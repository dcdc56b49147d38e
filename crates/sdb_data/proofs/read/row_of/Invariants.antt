use Rattle.std.proofs.Common.{◌≡◌, take}
use Rattle.csv.specs.Records.{fields_of}
use Rattle.sdb_data.specs.Tables.{row_of}
use Rattle.sdb_data.proofs.read.row_of.Given as goal

abbrev pub invariant-loop-cell : goal.invariant-loop-cell
invariant-loop-cell l = l.row ≡ row_of (take l.cell-index l.accepted) (fields_of l.fields)
