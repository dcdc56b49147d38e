-- What holds at the end of a run: of the recorded transactions, and of what is in the stores.
use Rattle.std.specs.Prelude.{◌≡◌, ◌≢◌, ◌^◌, ◌<◌, true, List, Some, IsSome, IsOk}
use Rattle.law_runs.specs.Types.{Event, Key, Place, Record, TxId}
use Rattle.sdb_record.specs.Coordinator.{decision_in, is_coordinator_table}
use Rattle.sdb_record.specs.Meta.{checked, is_transactional}
use Rattle.sdb_model.specs.Events.{StoreContents, stored_at}
use Rattle.sdb_model.specs.Transactions.{Recorded, commit_of, point}
use Rattle.sdb_model.specs.Tables.{is_data}

-- The COMMIT of each recorded transaction was accepted, each has a point, and no two have one.
pub record HavePoints (places : List Place) (events : List Event) (closing : List StoreContents) : Type 0 where
  pub accepted : (id : TxId) → id.0 < 2 ^ 128 → Recorded places closing id → IsSome (commit_of events id)
  pub some : (id : TxId) → id.0 < 2 ^ 128 → Recorded places closing id → point events id ≢ 0
  pub apart : (id other : TxId) → id.0 < 2 ^ 128 → other.0 < 2 ^ 128 → Recorded places closing id → Recorded places closing other → id ≢ other → point events id ≢ point events other

-- Each record at a key of a table passes the checks, and each record of the coordinator's table is a well formed row.
pub record AreKnown (places : List Place) (closing : List StoreContents) : Type 0 where
  pub accepted : (k : Key) (r : Record) → is_data k ≡ true → stored_at places closing k ≡ Some r → is_transactional r ≡ true
  pub meta : (k : Key) (r : Record) → is_data k ≡ true → stored_at places closing k ≡ Some r → IsOk (checked r.columns)
  pub rows : (k : Key) (row : Record) → is_coordinator_table k.table ≡ true → stored_at places closing k ≡ Some row → IsOk (decision_in row)
