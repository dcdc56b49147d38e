use Rattle.std.proofs.Common.{◌≡◌, ◌++◌, drop}
use Rattle.sdb_data.specs.Tables.{named_row}
use Rattle.sdb_data.proofs.header.named_row.Given as goal

abbrev pub invariant-loop-column : goal.invariant-loop-column
invariant-loop-column l = l.row ++ named_row (drop l.column-index l.columns) l.header ≡ named_row l.columns l.header
