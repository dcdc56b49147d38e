-- Which tables a run is about.
use Rattle.sdb_record.specs.Coordinator.{is_coordinator_table}
use Rattle.std.specs.Prelude.{not, Bool, List, is_some, ◌||◌}
use Rattle.sdb_model.specs.Types.{Key, Table, TableName}
use Rattle.sdb_model.specs.Exec.{find_table}

-- tables that hold records of transactions: all but the coordinator's
abbrev pub is_data : Key → Bool
is_data key = not (is_coordinator_table key.table)

-- the tables that a run is about: those of its catalog, and the coordinator's
abbrev pub is_table_of_run : List Table → TableName → Bool
is_table_of_run catalog table = is_some (find_table catalog table) || is_coordinator_table table
