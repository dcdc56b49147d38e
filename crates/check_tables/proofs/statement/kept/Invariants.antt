use Rattle.std.proofs.Common.{◌≡◌, take}
use Rattle.std.specs.Prelude.{filter, not}
use Rattle.sdb_model.specs.Exec.{passes}
use Rattle.check_tables.proofs.statement.kept.Given as goal

abbrev pub invariant-loop-row : goal.invariant-loop-row
invariant-loop-row l = l.found ≡ filter (λ r. not (passes l.table l.tests r)) (take l.row-index l.rows)
