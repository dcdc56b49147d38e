-- What holds of the database while a client is alone: it is sound, and unresolved records of others are only ever resolved by
-- their rows.
use Rattle.std.specs.Prelude.{◌≡◌, ◌⊎◌, true, false, is_ok, List, Some, None, IsSomeAnd}
use Rattle.std.specs.Result.{result_ok}
use Rattle.law_clients.specs.Types.{Decided, Key, Pair, Record, Table, TxId}
use Rattle.sdb_types.specs.declared.record.State.TheVariants as state
use Rattle.sdb_record.specs.declared.coordinator.Decision.TheVariants as decision
use Rattle.sdb_record.specs.Coordinator.{coordinator_key_of, decision_in, is_coordinator_table}
use Rattle.sdb_record.specs.Meta.{id_in, is_in, is_transactional}
use Rattle.sdb_record.specs.Rolls.{image_under}
use Rattle.law_clients.specs.Fitting.{row_is_well_typed}
use Rattle.law_clients.specs.Database.{AreOwn, Database, decided_on, is_committed_or_none, is_listed, row_in}

-- a coordinator row says that its transaction is aborted
abbrev pub IsAbortedRow : Record → Type 0
IsAbortedRow row = IsSomeAnd (result_ok (decision_in row)) (λ d. d.decision ≡ decision.Aborted)

-- Each record is at its own key; each record of a table passes the checks, its image fits the table, and the coordinator's rows are well
-- formed.
pub record IsSound (catalog : List Table) (g : Database) : Type 0 where
  pub own : AreOwn g
  pub accepted : (k : Key) (r : Record) → is_listed catalog k ≡ true → g k ≡ Some r → is_transactional r ≡ true
  pub rows : (k : Key) (r : Record) → is_coordinator_table k.table ≡ true → g k ≡ Some r → is_ok (decision_in r) ≡ true
  pub fits : (k : Key) (columns : List Pair) → is_listed catalog k ≡ true → row_in g k ≡ Some columns → row_is_well_typed catalog k columns ≡ true

-- the coordinator's table is none of the catalog's
abbrev pub IsApart : List Table → Type 0
IsApart catalog = (k : Key) → is_listed catalog k ≡ true → is_coordinator_table k.table ≡ false

-- An unresolved record was resolved: the decision on it is known, and its image under it is in its place.
pub record IsResolved (h : Database) (k : Key) (r : Record) : Type 0 where
  pub d : Decided
  pub decided : decided_on h r ≡ Some d
  pub present : h k ≡ image_under r (Some d)

-- There is an unresolved record of the transaction whose coordinator row has this key.
pub record IsPreparedFor (catalog : List Table) (g : Database) (k : Key) : Type 0 where
  pub at : Key
  pub r : Record
  pub id : TxId
  pub listed : is_listed catalog at ≡ true
  pub present : g at ≡ Some r
  pub loose : is_in state.Committed r.columns ≡ false
  pub writer : id_in r.columns ≡ Some id
  pub key : k ≡ coordinator_key_of id

-- From one database to a later one: committed records, and keys without one, stay; an unresolved record stays or is resolved; coordinator
-- rows stay, and a new one says ABORTED, of a transaction that had an unresolved record.
pub record OnlyResolves (catalog : List Table) (g h : Database) : Type 0 where
  pub firm : (k : Key) → is_listed catalog k ≡ true → is_committed_or_none (g k) ≡ true → h k ≡ g k
  pub held : (k : Key) (r : Record) → is_listed catalog k ≡ true → g k ≡ Some r → is_in state.Committed r.columns ≡ false → (h k ≡ Some r) ⊎ IsResolved h k r
  pub rows : (k : Key) (row : Record) → is_coordinator_table k.table ≡ true → g k ≡ Some row → h k ≡ Some row
  pub fresh : (k : Key) (row : Record) → is_coordinator_table k.table ≡ true → g k ≡ None → h k ≡ Some row → IsAbortedRow row × IsPreparedFor catalog g k
