use Rattle.std.proofs.Common.{◌≡◌, take, map}
use Rattle.sdb_exec.proofs.show.names_of_columns.Given as goal

abbrev pub invariant-loop-column : goal.invariant-loop-column
invariant-loop-column l = l.names ≡ map (λ c. c.name) (take l.column-index l.columns)
