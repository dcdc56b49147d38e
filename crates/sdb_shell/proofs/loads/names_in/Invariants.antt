use Rattle.std.proofs.Common.{◌≡◌, ◌++◌, drop}
use Rattle.sdb_shell.specs.Statements.{names_listed}
use Rattle.sdb_shell.proofs.loads.names_in.Given as goal

abbrev pub invariant-loop-column : goal.invariant-loop-column
invariant-loop-column l = l.names ++ names_listed l.first (drop l.column-index l.columns) ≡ names_listed l.first l.columns
