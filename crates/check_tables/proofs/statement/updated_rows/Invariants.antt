use Rattle.std.proofs.Common.{◌≡◌, take, map}
use Rattle.sdb_model.specs.Exec.{updated}
use Rattle.check_tables.proofs.statement.updated_rows.Given as goal

abbrev pub invariant-loop-row : goal.invariant-loop-row
invariant-loop-row l = l.found ≡ map (updated l.table l.update) (take l.row-index l.rows)
