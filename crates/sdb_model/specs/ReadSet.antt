-- The read set of a transaction: what the records that its statements read mean, with the versions found.
use Rattle.std.specs.Prelude.{ℕ, Bool, true, false, not, List, ◌&&◌, filter, find, Option, Some, None, if◌then◌else◌}
use Rattle.std.specs.Option.{option_and_then, option_map, option_map_or}
use Rattle.std.specs.List.{filter_map, flat_map, list_all}
use Rattle.std.specs.Ordering.{is_eq}
use Rattle.sdb_model.specs.Types.{Condition, Key, Read, Record, Reply, Request, Scan, TxId}
use Rattle.sdb_types.specs.declared.record.State.TheVariants as state
use Rattle.sdb_types.specs.declared.record.Request.TheVariants as ask
use Rattle.sdb_types.specs.declared.record.Reply.TheVariants as reply
use Rattle.sdb_types.specs.Order.{key_cmp, same_key}
use Rattle.sdb_types.specs.Contents.{holds, in_span}
use Rattle.sdb_record.specs.Coordinator.{is_coordinator_table}
use Rattle.sdb_record.specs.Meta.{is_in, is_transactional}
use Rattle.sdb_record.specs.Moved.{version_of}
use Rattle.sdb_record.specs.Among.{version_among}
use Rattle.sdb_model.specs.declared.answer.Answer.{Answer}
use Rattle.sdb_model.specs.declared.answer.Answer.TheVariants as answer
use Rattle.sdb_model.specs.declared.event.Event.{Event}
use Rattle.sdb_model.specs.Events.{table_asked}
use Rattle.sdb_model.specs.Calls.{StoreCall, calls_of, is_read, key_asked, put_by, records_read}
use Rattle.sdb_model.specs.Transactions.{Executed, client_of, statements_inside}

-- One item of a read set: a key with the version found there, or a span with the versions found in it.
pub data ReadItem : Type 0 where
  KeyRead : (read : Read) → ReadItem
  SpanRead : (scan : Scan) → ReadItem

-- what an item says of a key: nothing, or the version found there, none where there was no record
abbrev pub version_read : ReadItem → Key → Option (Option TxId)
version_read (KeyRead read) key = if same_key read.key key then Some read.version else None
version_read (SpanRead scan) key = if in_span scan.span key then Some (version_among scan.found key) else None

---- what a found record means

-- the condition on which a call puts or deletes one record
abbrev pub condition_asked : Request → Option Condition
condition_asked (ask.Get key) = None
condition_asked (ask.Scan span) = None
condition_asked (ask.PutIf rec condition) = Some condition
condition_asked (ask.DeleteIf key condition) = Some condition
condition_asked (ask.PutAll b) = None

-- A call rolls a record: it puts or deletes at the record's key, on a condition that the record meets.
abbrev pub rolls : Record → StoreCall → Bool
rolls r m = option_map_or (λ k. is_eq (key_cmp k r.key)) (key_asked m.request) false && option_map_or (λ c. holds c (Some r)) (condition_asked m.request) false

-- What a found record means to the statement with these calls: itself where it is committed, and else what the statement's own roll put
-- there, none where that deleted it.
abbrev pub meaning_of : List StoreCall → Record → Option Record
meaning_of calls r = if is_in state.Committed r.columns then Some r else option_and_then (λ m. put_by m.request) (find (rolls r) calls)

---- what a statement read

abbrev pub read_of : Key → Option Record → Read
read_of key found = record { key = key; version = version_of found }

-- the reads of the records that a scan found and that mean some record
abbrev pub reads_of : List StoreCall → List Record → List Read
reads_of calls rows = filter_map (λ r. option_map (λ (image : Record). read_of r.key (Some image)) (meaning_of calls r)) rows

-- what one read of a statement, with all of its calls, adds to the read set
abbrev pub read_item_of : List StoreCall → Request → Reply → Option ReadItem
read_item_of calls (ask.Get key) (reply.Found found) = Some (KeyRead (read_of key (option_and_then (meaning_of calls) found)))
read_item_of calls (ask.Scan span) (reply.Rows rows) = Some (SpanRead (record { span = span; found = reads_of calls rows }))
read_item_of calls q r = None

-- a call that reads rows of tables, and not the coordinator's
abbrev pub reads_rows : StoreCall → Bool
reads_rows m = if is_coordinator_table (table_asked m.request) then false else is_read m.request

abbrev pub read_items : List StoreCall → List ReadItem
read_items calls = filter_map (λ m. read_item_of calls m.request m.reply) (filter reads_rows calls)

-- each record that the reads among some calls found passes the checks
abbrev pub finds_transactional : List StoreCall → Bool
finds_transactional calls = list_all (λ m. list_all is_transactional (records_read m.reply)) (filter reads_rows calls)

-- The read of a statement that made these calls and is answered so has finished. It has where the statement is answered from rows, or is
-- refused, which says that it would write too many keys, or that it made no call. It has where the statement is answered BadRecord of a row
-- that doesn't fit its table: each record that it found passes the checks, and the key is none of the coordinator's.
abbrev pub read_finished : List StoreCall → Answer → Bool
read_finished calls (answer.Rows rows) = true
read_finished calls (answer.Count n) = true
read_finished calls (answer.Duplicate key) = true
read_finished calls (answer.Refused refusal) = true
read_finished calls (answer.BadRecord key) = not (is_coordinator_table key.table) && finds_transactional calls
read_finished calls a = false

-- the read of a statement has finished, which made these calls
abbrev pub has_finished : List StoreCall → Executed → Bool
has_finished calls s = option_map_or (read_finished calls) s.answer false

-- the read of a statement that a client took has finished
abbrev pub has_read : List Event → ℕ → Executed → Bool
has_read events client s = has_finished (calls_of events client s) s

-- The read set of a transaction, in order. What a statement read is in it where its read has finished, whatever the statement is then
-- answered.
abbrev pub read_set_of : List Event → TxId → List ReadItem
read_set_of events id = flat_map (λ s. read_items (calls_of events (client_of id) s)) (filter (has_read events (client_of id)) (statements_inside events id))
