-- What the records that a read found mean by its calls, and what a transaction has read by those of its statements.
use Rattle.std.specs.Prelude.{◌≡◌, ◌⊎◌, true, false, List, [], ◌∷◌, ◌++◌, Option, Some, None, Ok, ℕ, ℤ, ◌≤◌, filter, find, nat_lt, length, is_some, Contains, ◌↔◌, map}
use Rattle.std.specs.List.{AllByRecursion, cons_option, filter_map, flat_map, list_all}
use Rattle.law_clients.specs.Types.{Access, Event, Record, Reply, Request}
use Rattle.sdb_types.specs.declared.record.Reply.TheVariants as reply
use Rattle.sdb_types.specs.declared.record.State.TheVariants as state
use Rattle.sdb_types.specs.Contents.{CanAnswer, rise}
use Rattle.sdb_record.specs.declared.access.Access.TheVariants as access
use Rattle.sdb_record.specs.Coordinator.{is_coordinator_table}
use Rattle.sdb_record.specs.Meta.{checked, is_in, is_transactional, is_unresolved}
use Rattle.sdb_model.specs.Events.{table_asked}
use Rattle.sdb_model.specs.Calls.{StoreCall, calls_by, calls_of, made_by, records_read}
use Rattle.sdb_model.specs.Transactions.{Executed, client_of, statements_inside}
use Rattle.sdb_record.specs.Moved.{version_of}
use Rattle.sdb_model.specs.ReadSet.{ReadItem, KeyRead, SpanRead, meaning_of, read_items, reads_rows, rolls, has_read}
use Rattle.sdb_snapshot.specs.Reads.{reads_of}
use Rattle.sdb_snapshot.specs.Seen.{Seen}
use Rattle.law_protocol.specs.Lawful.{id}
use Rattle.law_protocol.specs.Plan.{Plan}
use Rattle.law_clients.specs.Reads.{first_image, work_of}
use Rattle.law_clients.specs.Owner.{plan_of}
use Rattle.law_clients.specs.System.{ClientCall, IsReplyTo}
use Rattle.law_clients.specs.ReadAt.{ReadAt, Asking, Resolving, Done, Failed, read_pending, read_step}
use Rattle.sdb_txn.specs.Read.{request_of}

-- a record has a meaning by some calls: it is committed, or one of them rolled it
abbrev pub HasMeaning : List StoreCall → Record → Type 0
HasMeaning ms r = (is_in state.Committed r.columns ≡ true) ⊎ ((m : StoreCall) × (find (rolls r) ms ≡ Some m))

-- no call rolled it
abbrev pub IsUnrolled : List StoreCall → Record → Type 0
IsUnrolled ms r = find (rolls r) ms ≡ None

-- the rows that a read was answered
abbrev pub rows_of : Reply → Option (List Record)
rows_of (reply.Found None) = Some []
rows_of (reply.Found (Some r)) = Some (r ∷ [])
rows_of (reply.Rows rows) = Some rows
rows_of r = None

-- The calls of a read: the first asked for its rows. Those that are done pass the checks and have a meaning each, and these are the images;
-- none of those that are left was rolled. The other calls are of recoveries.
pub record RowsMade (ms : List StoreCall) (a : Access) (images left : List Record) : Type 0 where
  pub first : StoreCall
  pub more : List StoreCall
  pub calls : ms ≡ first ∷ more
  pub asked : first.request ≡ request_of a
  pub can : CanAnswer (request_of a) first.reply
  pub done : List Record
  pub rows : rows_of first.reply ≡ Some (done ++ left)
  pub rises : rise left ≡ true
  pub settled : AllByRecursion (HasMeaning ms) done
  pub transactional : AllByRecursion (λ r. is_transactional r ≡ true) done
  pub found : images ≡ filter_map (meaning_of ms) done
  pub unrolled : AllByRecursion (IsUnrolled ms) left
  pub others : AllByRecursion (λ m. reads_rows m ≡ false) more

-- the calls that a read has made where it is
abbrev pub ReadMade : List StoreCall → Access → ReadAt → Type 0
ReadMade ms a Asking = ms ≡ []
ReadMade ms a (Resolving images rec meta p left) = RowsMade ms a images (rec ∷ left) × (is_unresolved rec ≡ true) × (checked rec.columns ≡ Ok meta)
ReadMade ms a (Done images) = RowsMade ms a images []
ReadMade ms a Failed = Unit {0}

-- the rows that are left to a read when it takes a reply
abbrev pub rows_left : ReadAt → Reply → List Record
rows_left Asking r = records_read r
rows_left (Resolving images rec meta p left) r = left
rows_left s r = []

-- one of these records doesn't pass the checks
abbrev pub HasUnchecked : List Record → Type 0
HasUnchecked rows = list_all is_transactional rows ≡ false

-- A reply to the pending call of a read, whose rows are as they were observed, and the calls that it has made.
pub record MadeReply : Type 0 where
  pub asked : Access
  pub stage : ReadAt
  pub made : List StoreCall
  pub observed : ReadMade made asked stage
  pub call : ClientCall
  pub replies : IsReplyTo (read_pending asked stage) call

-- where it takes the read to
abbrev pub stage_after : MadeReply → ReadAt
stage_after r = read_step r.stage r.call.now r.call.reply

-- the read item of a read that returned these images
abbrev pub read_item_with : Access → List Record → ReadItem
read_item_with (access.Get key) images = KeyRead (record { key = key; version = version_of (first_image images) })
read_item_with (access.Scan span) images = SpanRead (record { span = span; found = reads_of images })

-- an access asks for rows of another table than the coordinator's
abbrev pub AsksRows : Access → Type 0
AsksRows a = is_coordinator_table (table_asked (request_of a)) ≡ false

-- a call has that request and that reply
pub record IsMade (m : StoreCall) (q : Request) (r : Reply) : Type 0 where
  pub request : m.request ≡ q
  pub reply : m.reply ≡ r

-- a client's calls after an event, in order
abbrev pub calls_since : List Event → ℕ → ℕ → List StoreCall
calls_since events c n = filter (λ m. nat_lt n m.at) (calls_by events c)

-- the call that an event is of a client, if it is one
abbrev pub call_made : ℕ → ℕ → Event → List StoreCall
call_made c n e = cons_option (made_by c (n, e)) []

-- a statement was answered by an event before
pub record WasAnswered (events : List Event) (s : Executed) : Type 0 where
  pub answered : is_some s.answer ≡ true
  pub before : s.reached ≤ length events

-- the read set of the statements of a list whose reads have finished
abbrev pub read_items_by : List Event → ℕ → List Executed → List ReadItem
read_items_by events c ss = flat_map (λ s. read_items (calls_of events c s)) (filter (has_read events c) ss)

-- What a transaction has read contains this item.
abbrev pub HasReadItem : Seen → ReadItem → Type 0
HasReadItem seen n = Contains (map KeyRead seen.reads ++ map SpanRead seen.scans) n

-- What a transaction has read is the read set of the statements so far.
abbrev pub IsReadSetIn : List Event → ℕ → List Executed → Seen → Type 0
IsReadSetIn events c ss seen = (n : ReadItem) → HasReadItem seen n ↔ Contains (read_items_by events c ss) n

-- a statement adds nothing to the read set: its read has not finished, or it made none
abbrev pub ReadsNothing : List Event → ℕ → Executed → Type 0
ReadsNothing events c s = (has_read events c s ≡ false) ⊎ (read_items (calls_of events c s) ≡ [])

-- a statement records what a read returned
pub record RecordsRead (events : List Event) (c : ℕ) (s : Executed) (a : Access) (images : List Record) : Type 0 where
  pub finished : has_read events c s ≡ true
  pub read_set : read_items (calls_of events c s) ≡ read_item_with a images ∷ []

-- The statements of a client's transaction, and what this has read, which is their read set.
pub record BodyReadSet : Type 0 where
  pub events : List Event
  pub client : ℕ
  pub executed : List Executed
  pub seen : Seen
  pub as_read : IsReadSetIn events client executed seen

-- With one statement more, the same for what is then read.
abbrev pub ReadSetWith : BodyReadSet → Executed → Seen → Type 0
ReadSetWith b s seen = IsReadSetIn b.events b.client (b.executed ++ s ∷ []) seen

-- They are those of a transaction of that number and client, whose COMMIT took what it has read and written at that moment.
pub record IsCommitStartedWith (plan : ℕ → Plan) (b : BodyReadSet) (t : ℕ) (now : ℤ) : Type 0 where
  pub owner : client_of (id t) ≡ b.client
  pub executed : statements_inside b.events (id t) ≡ b.executed
  pub planned : plan t ≡ plan_of (work_of (id t) now b.seen)
