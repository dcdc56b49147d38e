use Rattle.std.proofs.Common.{◌≡◌, ◌≤◌, take}
use Rattle.sdb_catalog.specs.Opened.{open_count}
use Rattle.sdb_catalog.proofs.open.count_tables.Given as goal

abbrev pub invariant-loop-entry : goal.invariant-loop-entry
invariant-loop-entry l = record {
  counted : l.count ≡ open_count (take l.entry-index l.entries);
  bound : l.count ≤ l.entry-index;
}
