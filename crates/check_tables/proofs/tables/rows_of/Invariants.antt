use Rattle.std.proofs.Common.{◌≡◌, ◌++◌, map}
use Rattle.sdb_model.specs.Exec.{row_of_entry}
use Rattle.check_tables.proofs.tables.rows_of.Given as goal

abbrev pub invariant-loop-key : goal.invariant-loop-key
invariant-loop-key l = l.found ++ map row_of_entry l.key-iterator ≡ map row_of_entry l.rows.entries
