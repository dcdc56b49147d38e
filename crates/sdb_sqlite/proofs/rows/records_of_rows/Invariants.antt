use Rattle.std.proofs.Common.{◌≡◌, drop}
use Rattle.sdb_sqlite.specs.Asked.{rows_records}
use Rattle.sdb_sqlite.proofs.Listing.{onto}
use Rattle.sdb_sqlite.proofs.rows.records_of_rows.Given as goal

abbrev pub invariant-loop-row : goal.invariant-loop-row
invariant-loop-row l = onto l.records (rows_records l.span (drop l.row-index l.rows)) ≡ rows_records l.span l.rows
