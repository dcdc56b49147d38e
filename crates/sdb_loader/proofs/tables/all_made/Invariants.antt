use Rattle.std.proofs.Common.{◌≡◌, ◌++◌, drop, map, true}
use Rattle.std.specs.List.{list_all}
use Rattle.sdb_schema.specs.Table.{is_table}
use Rattle.sdb_loader.specs.Described.{first_given, bad_table, table_of}
use Rattle.sdb_loader.specs.NamedData.{named_data}
use Rattle.sdb_loader.proofs.tables.all_made.Given as goal

abbrev pub invariant-loop-table : goal.invariant-loop-table
invariant-loop-table l = record {
  made : l.made ++ map table_of (map named_data (drop l.table-index l.tables)) ≡ map table_of (map named_data l.tables);
  tables : list_all is_table l.made ≡ true;
  good : first_given bad_table (map named_data (drop l.table-index l.tables)) ≡ first_given bad_table (map named_data l.tables);
}
