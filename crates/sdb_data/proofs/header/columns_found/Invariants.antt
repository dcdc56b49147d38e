use Rattle.std.proofs.Common.{◌≡◌, ◌++◌, drop}
use Rattle.sdb_data.specs.Tables.{columns_found}
use Rattle.sdb_data.proofs.header.columns_found.Given as goal

abbrev pub invariant-loop-column : goal.invariant-loop-column
invariant-loop-column l = l.accepted ++ columns_found (drop l.column-index l.columns) l.header ≡ columns_found l.columns l.header
