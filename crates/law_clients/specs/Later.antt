-- What one statement of a client that is alone leaves of the database, a COMMIT's own records and row apart.
use Rattle.std.specs.Prelude.{◌≡◌, ◌⊎◌, ℤ, true, false, List, Option, Some, None}
use Rattle.law_clients.specs.Types.{Key, Record, Table, TxId}
use Rattle.sdb_types.specs.declared.record.State.TheVariants as state
use Rattle.sdb_record.specs.Coordinator.{coordinator_key_of, is_coordinator_table}
use Rattle.sdb_record.specs.Meta.{id_in, is_in, moment_in}
use Rattle.sdb_record.specs.Names.{tx_prepared_at}
use Rattle.law_clients.specs.Database.{Database, is_listed}
use Rattle.law_clients.specs.OnlyResolves.{IsPreparedFor, IsAbortedRow, IsSound}

-- the transaction that a statement commits, with its moment
pub record Own : Type 0 where
  pub id : TxId
  pub at : ℤ

-- a record was put by it
pub record IsOwn (own : Option Own) (r : Record) : Type 0 where
  pub o : Own
  pub is : own ≡ Some o
  pub writer : id_in r.columns ≡ Some o.id
  pub moment : moment_in r.columns tx_prepared_at ≡ Some o.at

-- a key is that of its row
pub record IsOwnRow (own : Option Own) (k : Key) : Type 0 where
  pub o : Own
  pub is : own ≡ Some o
  pub key : k ≡ coordinator_key_of o.id

-- Over one statement the database stays sound; each unresolved record was there before, or is the statement's own; coordinator rows
-- stay; and
-- a new one says ABORTED, of a transaction that had an unresolved record, or is the statement's own.
pub record Later (catalog : List Table) (own : Option Own) (g h : Database) : Type 0 where
  pub sound : IsSound catalog h
  pub loose : (k : Key) (r : Record) → is_listed catalog k ≡ true → h k ≡ Some r → is_in state.Committed r.columns ≡ false → (g k ≡ Some r) ⊎ IsOwn own r
  pub rows : (k : Key) (row : Record) → is_coordinator_table k.table ≡ true → g k ≡ Some row → h k ≡ Some row
  pub fresh : (k : Key) (row : Record) → is_coordinator_table k.table ≡ true → g k ≡ None → h k ≡ Some row → (IsAbortedRow row × IsPreparedFor catalog g k) ⊎ IsOwnRow own k
