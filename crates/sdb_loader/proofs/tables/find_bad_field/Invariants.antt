use Rattle.std.proofs.Common.{◌≡◌, drop, map}
use Rattle.sdb_loader.specs.Described.{first_given, bad_field}
use Rattle.sdb_loader.specs.NamedData.{named_data}
use Rattle.sdb_loader.proofs.tables.find_bad_field.Given as goal

abbrev pub invariant-loop-table : goal.invariant-loop-table
invariant-loop-table l = first_given bad_field (map named_data (drop l.table-index l.tables)) ≡ first_given bad_field (map named_data l.tables)
