use Rattle.std.proofs.Common.{◌≡◌, [], drop}
use Rattle.std.specs.Prelude.{fold}
use Rattle.sdb_model.specs.Exec.{placed}
use Rattle.check_tables.proofs.statement.sorted.Given as goal

abbrev pub invariant-loop-row : goal.invariant-loop-row
invariant-loop-row l = fold (placed l.table) l.found (drop l.row-index l.rows) ≡ fold (placed l.table) [] l.rows
