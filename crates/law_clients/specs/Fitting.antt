-- Tables whose rows all fit.
use Rattle.std.specs.Prelude.{Bool, false, List}
use Rattle.std.specs.Option.{option_map_or}
use Rattle.std.specs.List.{list_all}
use Rattle.law_clients.specs.Types.{Key, Pair, Table}
use Rattle.sdb_schema.specs.Rows.{fits_table}
use Rattle.sdb_model.specs.Exec.{Tables, all_rows, find_table}

-- a row is of a table of the catalog, and fits it
abbrev pub row_is_well_typed : List Table → Key → List Pair → Bool
row_is_well_typed catalog key columns = option_map_or (λ t. fits_table t key columns) (find_table catalog key.table) false

-- each row is such a row
abbrev pub tables_are_well_typed : List Table → Tables → Bool
tables_are_well_typed catalog d = list_all (λ r. row_is_well_typed catalog r.key r.columns) (all_rows d)
