use Rattle.std.proofs.Common.{◌≡◌, ◌≤◌, length, drop}
use Rattle.sdb_model.specs.Exec.{tables_of_rows}
use Rattle.check_tables.proofs.tables.PlainTables.of_rows.Given as goal

abbrev pub invariant-loop-i : goal.invariant-loop-i
invariant-loop-i l = record {
  within : l.i ≤ length l.rows;
  same : l.tables ≡ tables_of_rows (drop l.i l.rows);
}

abbrev pub decreases-loop-i : goal.decreases-loop-i
decreases-loop-i l = l.i
