-- The record at each key of some stores, what it means under the coordinator's rows, and what one call does to it.
use Rattle.std.specs.Prelude.{◌≡◌, ◌⊎◌, Bool, true, false, List, Option, Some, None, is_some, if◌then◌else◌}
use Rattle.std.specs.List.{list_all}
use Rattle.std.specs.Option.{option_and_then}
use Rattle.std.specs.Result.{result_ok}
use Rattle.law_clients.specs.Types.{Decided, Key, Pair, Place, Record, Reply, Request, Span, Table, TxId}
use Rattle.sdb_types.specs.declared.record.Request.TheVariants as ask
use Rattle.sdb_types.specs.declared.record.Reply.TheVariants as reply
use Rattle.sdb_types.specs.declared.record.State.TheVariants as state
use Rattle.sdb_types.specs.declared.record.Put.{Put}
use Rattle.sdb_types.specs.Contents.{are_rows_of, holds, in_span, left_at, record_among}
use Rattle.sdb_types.specs.Order.{same_key}
use Rattle.sdb_record.specs.Coordinator.{coordinator_key_of, decision_in}
use Rattle.sdb_record.specs.Meta.{id_in, is_in}
use Rattle.sdb_record.specs.Rolls.{image_of, row_of_image}
use Rattle.sdb_model.specs.Exec.{find_table}
use Rattle.sdb_model.specs.Events.{StoreContents, stored_at}

-- A database: the record at each key, if there is one.
abbrev pub Database : Type 0
Database = Key → Option Record

-- each record is at its own key
abbrev pub AreOwn : Database → Type 0
AreOwn g = (k : Key) (r : Record) → g k ≡ Some r → r.key ≡ k

-- the records of the tables of stores, by their places
abbrev pub database_of : List Place → List StoreContents → Database
database_of places store_contents k = stored_at places store_contents k

-- a key of a table of the catalog
abbrev pub is_listed : List Table → Key → Bool
is_listed catalog k = is_some (find_table catalog k.table)

---- what it means

-- the decision on a transaction
abbrev pub decided_in : Database → TxId → Option Decided
decided_in g id = option_and_then (λ row. result_ok (decision_in row)) (g (coordinator_key_of id))

-- on the writer of a record
abbrev pub decided_on : Database → Record → Option Decided
decided_on g r = option_and_then (decided_in g) (id_in r.columns)

-- the committed image of the record at a key
abbrev pub image_in : Database → Key → Option Record
image_in g k = option_and_then (λ r. image_of r (decided_on g r)) (g k)

-- and its row
abbrev pub row_in : Database → Key → Option (List Pair)
row_in g k = option_and_then row_of_image (image_in g k)

-- nothing, or a committed record
abbrev pub is_committed_or_none : Option Record → Bool
is_committed_or_none None = true
is_committed_or_none (Some r) = is_in state.Committed r.columns

---- what a call does

-- all is as before
abbrev pub Same : Database → Database → Type 0
Same g h = (k : Key) → h k ≡ g k

-- a database with another record, or none, at one key
abbrev pub with_record : Key → Option Record → Database → Database
with_record key new g k = if same_key k key then new else g k

-- and with the records of a batch
abbrev pub with_batch : List Put → Database → Database
with_batch b g k = left_at b k (g k)

-- all but the record at one key, which is this one now
abbrev pub IsWith : Key → Option Record → Database → Database → Type 0
IsWith key new g h = Same (with_record key new g) h

-- each condition of a batch holds
abbrev pub are_met : List Put → Database → Bool
are_met b g = list_all (λ p. holds p.condition (g p.rec.key)) b

-- a call had no effect: a fault, or out of memory
abbrev pub HasFailed : Reply → Type 0
HasFailed r = (r ≡ reply.Fault) ⊎ (r ≡ reply.NoMemory)

-- A write whose conditions held, with the database that it asks for: it took effect, and its reply says so or is a fault; or it had none.
pub data TookEffect (wanted : Database) (r : Reply) (g h : Database) : Type 0 where
  Done : (replied : (r ≡ reply.Applied) ⊎ (r ≡ reply.Fault)) (now : Same wanted h) → TookEffect wanted r g h
  Undone : (replied : HasFailed r) (same : Same g h) → TookEffect wanted r g h

-- the same of a write of one key
abbrev pub Wrote : Key → Option Record → Reply → Database → Database → Type 0
Wrote key new r g h = TookEffect (with_record key new g) r g h

-- A get returns the record at its key, or has failed.
pub data Got (key : Key) (r : Reply) (g : Database) : Type 0 where
  Found : (replied : r ≡ reply.Found (g key)) → Got key r g
  NotFound : (replied : HasFailed r) → Got key r g

-- A scan returns the records of its span, in the order of their keys, or has failed.
pub data Scanned (span : Span) (r : Reply) (g : Database) : Type 0 where
  Returned : (rows : List Record) (replied : r ≡ reply.Rows rows) (at : (k : Key) → in_span span k ≡ true → record_among rows k ≡ g k) (inside : are_rows_of span rows ≡ true) → Scanned span r g
  NotReturned : (replied : HasFailed r) → Scanned span r g

-- One call: a read returns what is there, and leaves it; a write whose condition holds changes its key alone, or nothing, and a batch whose
-- conditions all hold its keys alone, or nothing; another changes nothing.
abbrev pub Called : Request → Reply → Database → Database → Type 0
Called (ask.Get key) r g h = Same g h × Got key r g
Called (ask.Scan span) r g h = Same g h × Scanned span r g
Called (ask.PutIf rec c) r g h = (holds c (g rec.key) ≡ true → Wrote rec.key (Some rec) r g h) × (holds c (g rec.key) ≡ false → Same g h)
Called (ask.DeleteIf key c) r g h = (holds c (g key) ≡ true → Wrote key None r g h) × (holds c (g key) ≡ false → Same g h)
Called (ask.PutAll b) r g h = (are_met b g ≡ true → TookEffect (with_batch b g) r g h) × (are_met b g ≡ false → Same g h)
