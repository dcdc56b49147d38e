use Rattle.std.proofs.Common.{◌≡◌, take}
use Rattle.sdb_contents.specs.Opening.{table_names}
use Rattle.sdb_contents.proofs.tables.table_names.Given as goal

abbrev pub invariant-loop-i : goal.invariant-loop-i
invariant-loop-i l = l.names ≡ table_names (take l.i l.catalog)
