-- Events on the stores of a script.
use Rattle.std.specs.Prelude.{◌≡◌, true, List, Some, IsOk}
use Rattle.std.specs.FinMap.{empty}
use Rattle.law_runs.specs.Types.{Event, Key, Place, Record, Script, Table}
use Rattle.sdb_record.specs.Coordinator.{decision_in, is_coordinator_table}
use Rattle.sdb_record.specs.Meta.{is_transactional}
use Rattle.sdb_model.specs.Events.{IsTrace, StoreContents, stored_at}
use Rattle.law_protocol.specs.Spread.{AreAbout, HoldAs}
use Rattle.sdb_model.specs.Tables.{is_data, is_table_of_run}

-- Events are about a script's tables and the coordinator's, and agree with stores that held nothing of these to begin with.
pub record IsTraceOnEmpty (script : Script) (events : List Event) (opening closing : List StoreContents) : Type 0 where
  pub moments : List (List StoreContents)
  pub traced : IsTrace script.places events opening moments closing
  pub about : AreAbout script.catalog events
  pub nothing : HoldAs script.catalog script.places opening empty

-- Each record of a run's tables passes the checks, and each record of the coordinator's table is a well formed row.
pub record AreSound (catalog : List Table) (places : List Place) (closing : List StoreContents) : Type 0 where
  pub accepted : (k : Key) (r : Record) → is_table_of_run catalog k.table ≡ true → is_data k ≡ true → stored_at places closing k ≡ Some r → is_transactional r ≡ true
  pub rows : (k : Key) (row : Record) → is_coordinator_table k.table ≡ true → stored_at places closing k ≡ Some row → IsOk (decision_in row)
