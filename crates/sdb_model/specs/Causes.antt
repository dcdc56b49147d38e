-- Why a statement has its answer: for each answer its cause, over the events of a run.
use Rattle.std.specs.Prelude.{◌≡◌, ◌≢◌, ◌⊎◌, ◌≤◌, ℕ, ℤ, ◌+◌, ◌-◌, Bool, true, false, not, ◌&&◌, if◌then◌else◌, MatchBool, nat_lt, List, filter, length, fold, take, sum_by, codes, Option, Some, None, IsSomeAnd, is_none, is_some, Contains, Err, All}
use Rattle.std.specs.Option.{option_and_then, option_map_or}
use Rattle.std.specs.List.{count_by, list_any}
use Rattle.std.specs.Result.{result_ok}
use Rattle.sdb_model.specs.Types.{Decided, Decision, Key, Pair, Record, Reply, Scan, Span, Table, TxId}
use Rattle.sdb_types.specs.declared.record.Request.TheVariants as ask
use Rattle.sdb_types.specs.declared.record.Reply.TheVariants as reply
use Rattle.sdb_types.specs.Contents.{in_span, record_among}
use Rattle.sdb_schema.specs.Rows.{fits_table}
use Rattle.sdb_record.specs.declared.coordinator.Decision.TheVariants as decision
use Rattle.sdb_record.specs.Coordinator.{coordinator_key_of, decision_in, is_coordinator_table, is_expired}
use Rattle.sdb_record.specs.Meta.{checked, id_in, is_unresolved, moment_in}
use Rattle.sdb_record.specs.Moved.{IsChanged, same_version, version_of}
use Rattle.sdb_record.specs.Parts.{before_record}
use Rattle.sdb_record.specs.Rolls.{row_of_image}
use Rattle.sdb_record.specs.Among.{version_among}
use Rattle.sdb_model.specs.declared.answer.Answer.{Answer}
use Rattle.sdb_model.specs.declared.answer.Answer.TheVariants as answer
use Rattle.sdb_model.specs.declared.answer.Refusal.{Refusal}
use Rattle.sdb_model.specs.declared.event.Event.{Event}
use Rattle.sdb_model.specs.declared.statement.Insert.{Insert}
use Rattle.sdb_model.specs.declared.statement.Statement.{Statement}
use Rattle.sdb_model.specs.declared.statement.Statement.TheVariants as statement
use Rattle.sdb_model.specs.Sql.{Reads, Refuses, reads_commit, reads_vacuum}
use Rattle.sdb_model.specs.Catalogs.{catalog_after}
use Rattle.sdb_model.specs.Access.{in_access}
use Rattle.sdb_model.specs.Exec.{find_table, key_of, named_table, table_of}
use Rattle.sdb_model.specs.Reads.{access_of}
use Rattle.sdb_model.specs.Refused.{refusal_of}
use Rattle.sdb_model.specs.Follows.{SomeClient, is_open, runs_vacuum}
use Rattle.sdb_model.specs.Transactions.{Executed, statements_by, begins, ends, body, client_of, commit_of, statements_of, is_prepared_record, statements_inside}
use Rattle.sdb_model.specs.Calls.{StoreCall, calls_of, calls_after, calls_before, clock_at, decision_found, decision_learned, is_of_row, is_read, is_removal, put_by, records_read, records_observed}
use Rattle.sdb_model.specs.Requests.{any_of, records_put, observed_in}
use Rattle.sdb_model.specs.ReadSet.{ReadItem, SpanRead, read_set_of, reads_rows, version_read, meaning_of, has_read}
use Rattle.sdb_types.specs.Replies.{is_applied, is_fault}
use Rattle.sdb_types.specs.Order.{same_key}

-- the events before a statement was accepted
abbrev pub before : Executed → List Event → List Event
before s events = take (s.accepted - 1) events

abbrev pub is_select : Statement → Bool
is_select (statement.Select s) = true
is_select st = false

---- statements that are rejected when they are accepted

abbrev pub refused : ℕ → Answer
refused kind = answer.Refused (record { kind = kind; place = 0 })

-- a statement that has to be inside a transaction
abbrev pub NeedsTransaction : Statement → Type 0
NeedsTransaction st = (st ≢ statement.Begin) × (st ≢ statement.Vacuum)

-- its text is none of a statement
abbrev pub IsUnread : List ℕ → Answer → Type 0
IsUnread text a = (r : Refusal) × Refuses text r × (a ≡ answer.Refused r)

-- it is BEGIN inside a transaction
abbrev pub BeginsInside : List Event → ℕ → List ℕ → Answer → Type 0
BeginsInside past client text a = Reads text statement.Begin × (is_open past client ≡ true) × (a ≡ refused 4)

-- it has to be inside a transaction, and is outside
abbrev pub IsOutside : List Event → ℕ → List ℕ → Answer → Type 0
IsOutside past client text a = (st : Statement) × Reads text st × NeedsTransaction st × (is_open past client ≡ false) × (a ≡ refused 5)

-- the catalog refuses it
abbrev pub IsUnfit : List Table → List Event → ℕ → List ℕ → Answer → Type 0
IsUnfit catalog past client text a = (st : Statement) × (r : Refusal) × Reads text st × (is_open past client ≡ true) × (is_some (table_of st) ≡ true) × (refusal_of (catalog_after catalog past) st ≡ Some r) × (a ≡ answer.Refused r)

-- it is BEGIN while a client that isn't stopped runs VACUUM
abbrev pub MeetsVacuum : List Event → ℕ → List ℕ → Answer → Type 0
MeetsVacuum past client text a = Reads text statement.Begin × (is_open past client ≡ false) × SomeClient runs_vacuum past × (a ≡ answer.Vacuuming)

-- it is VACUUM while a client that isn't stopped has a transaction open
abbrev pub MeetsTransaction : List Event → List ℕ → Answer → Type 0
MeetsTransaction past text a = Reads text statement.Vacuum × SomeClient is_open past × (a ≡ answer.OpenTransactions)

-- A statement that a client takes after some events is rejected with this answer.
abbrev pub IsRejected : List Table → List Event → ℕ → List ℕ → Answer → Type 0
IsRejected catalog past client text a =
    IsUnread text a ⊎ BeginsInside past client text a ⊎ IsOutside past client text a ⊎ IsUnfit catalog past client text a ⊎ MeetsVacuum past client text a ⊎ MeetsTransaction past text a

---- the calls of a COMMIT

-- the transaction that a statement ends, where it is the COMMIT of one
abbrev pub IsCommitOf : List Event → ℕ → Executed → TxId → Type 0
IsCommitOf events client s id = (client_of id ≡ client) × (commit_of events id ≡ Some s)

-- a row says that its transaction is committed, or aborted
abbrev pub IsDecided : Decision → Option Decided → Type 0
IsDecided wanted found = IsSomeAnd found (λ d. d.decision ≡ wanted)

-- a put of a transaction's row with this decision
abbrev pub PutsRow : TxId → Decision → StoreCall → Type 0
PutsRow id wanted m = (is_of_row id m.request ≡ true) × IsDecided wanted (option_and_then (λ row. result_ok (decision_in row)) (put_by m.request))

---- the cause of each answer

-- After a read found a record of a transaction that isn't resolved, a get of that transaction's row found none, while the clock
-- showed less than 15 seconds more than the record's moment.
pub record IsEarly (events : List Event) (calls : List StoreCall) (read : StoreCall) (found : Record) (id : TxId) (at : ℤ) : Type 0 where
  pub asked : StoreCall
  pub unresolved : (is_unresolved found ≡ true) × (id_in found.columns ≡ Some id) × (moment_in found.columns (codes "tx_prepared_at") ≡ Some at)
  pub asks : Contains (calls_after read.at calls) asked × (asked.request ≡ ask.Get (coordinator_key_of id)) × (asked.reply ≡ reply.Found None)
  pub early : is_expired at (clock_at events asked.at) ≡ false

-- A read of the statement found such a record at the key.
pub record IsBusy (events : List Event) (client : ℕ) (s : Executed) (key : Key) (id : TxId) (at : ℤ) : Type 0 where
  pub read : StoreCall
  pub found : Record
  pub reads : Contains (calls_of events client s) read × (is_read read.request ≡ true) × Contains (records_read read.reply) found × (found.key ≡ key)
  pub early : IsEarly events (calls_of events client s) read found id at

-- What is found at a key that was read is no longer what was read there.
abbrev pub HasChanged : List ReadItem → Key → Option Record → Type 0
HasChanged read_set key found = (item : ReadItem) × (version : Option TxId) × Contains read_set item × (version_read item key ≡ Some version) × IsChanged found version

-- a scan of a span over a key showed this there
abbrev pub ScanObserves : StoreCall → Key → Option Record → Type 0
ScanObserves m key found = (span : Span) × (rows : List Record) × (m.request ≡ ask.Scan span) × (in_span span key ≡ true) × (m.reply ≡ reply.Rows rows) × (found ≡ record_among rows key)

-- a read showed this at a key: a get of it, or a scan of a span over it
abbrev pub ReadObserves : StoreCall → Key → Option Record → Type 0
ReadObserves m key found = ((m.request ≡ ask.Get key) × (m.reply ≡ reply.Found found)) ⊎ ScanObserves m key found

-- a prepare of a key by a transaction
abbrev pub prepares_key : TxId → Key → StoreCall → Bool
prepares_key id key m = any_of (λ r. is_prepared_record id r && same_key r.key key) (records_put m.request)

-- A prepare of the key was not met, and this was found there.
abbrev pub IsUnmet : List StoreCall → TxId → Key → Option Record → Type 0
IsUnmet calls id key found = (m : StoreCall) × Contains calls m × (prepares_key id key m ≡ true) × Contains (observed_in m.request m.reply) (key, found)

-- A check observed this at a key that was not prepared.
abbrev pub IsChecked : List StoreCall → TxId → Key → Option Record → Type 0
IsChecked calls id key found = (m : StoreCall) × Contains calls m × ReadObserves m key found × (list_any (prepares_key id key) calls ≡ false)

-- the base of a transaction's prepare of a key has this version
abbrev pub IsPrepareOver : TxId → Key → Option TxId → StoreCall → Type 0
IsPrepareOver id key version m = (r : Record) × Contains (records_put m.request) r × (is_prepared_record id r ≡ true) × (r.key ≡ key) × (version_of (before_record r) ≡ version)

-- A scan was recorded with another version of a key than the base of its prepare has.
abbrev pub IsRebased : List StoreCall → List ReadItem → TxId → Key → Type 0
IsRebased calls read_set id key =
    (prepare : StoreCall) × (base version : Option TxId) × Contains calls prepare × IsPrepareOver id key base prepare
    × ((scan : Scan) × Contains read_set (SpanRead scan) × (in_span scan.span key ≡ true) × (version_among scan.found key ≡ version)) × (same_version base version ≡ false)

-- A call of a COMMIT found something else at a key than was read there: a prepare that was not met, or a check of a key that was not
-- prepared; or a rescan came to a key that was prepared over another version than the scan was recorded with.
abbrev pub ConflictsAtCommit : List StoreCall → List ReadItem → TxId → Key → Option Record → Type 0
ConflictsAtCommit calls read_set id key found =
    (HasChanged read_set key found × (IsUnmet calls id key found ⊎ IsChecked calls id key found)) ⊎ (((m : StoreCall) × Contains calls m × ScanObserves m key found) × IsRebased calls read_set id key)

abbrev pub IsConflictAtCommit : List Event → ℕ → Executed → TxId → Key → Option Record → Type 0
IsConflictAtCommit events client s id key found = ConflictsAtCommit (calls_of events client s) (read_set_of events id) id key found

-- What a scan of a statement found at a key, by what its rows mean, is something else than the read set has there.
abbrev pub IsConflictAtScan : List Event → ℕ → Executed → TxId → Key → Option Record → Type 0
IsConflictAtScan events client s id key found =
    (m : StoreCall) × (span : Span) × (rows : List Record) × Contains (calls_of events client s) m × (m.request ≡ ask.Scan span) × (m.reply ≡ reply.Rows rows) × (in_span span key ≡ true)
    × (found ≡ option_and_then (meaning_of (calls_of events client s)) (record_among rows key)) × HasChanged (read_set_of events id) key found

-- a statement is one of a transaction, after its BEGIN
abbrev pub IsIn : List Event → ℕ → Executed → TxId → Type 0
IsIn events client s id = (client_of id ≡ client) × Contains (statements_of events id) s

abbrev pub IsConflict : List Event → ℕ → Executed → Key → Option Record → Type 0
IsConflict events client s key found =
    (id : TxId) × ((IsCommitOf events client s id × IsConflictAtCommit events client s id key found) ⊎ (IsIn events client s id × (reads_commit s.text ≡ false) × IsConflictAtScan events client s id key found))

-- A call of the COMMIT found its transaction's row ABORTED, and no call of it before had put that row.
pub record IsExpired (events : List Event) (client : ℕ) (s : Executed) (id : TxId) : Type 0 where
  pub commit : IsCommitOf events client s id
  pub call : StoreCall
  pub among : Contains (calls_of events client s) call
  pub aborted : IsDecided decision.Aborted (decision_found id call)
  pub not_own : All (λ m. PutsRow id decision.Aborted m → ⊥) (calls_before call.at (calls_of events client s))

abbrev pub HasReply : (Reply → Bool) → List StoreCall → Type 0
HasReply is calls = (m : StoreCall) × Contains calls m × (is m.reply ≡ true)

-- The deciding put of the COMMIT was answered with a fault, and a later call for the row with a fault or out of memory.
pub record IsUnknown (events : List Event) (client : ℕ) (s : Executed) (id : TxId) : Type 0 where
  pub commit : IsCommitOf events client s id
  pub put : StoreCall
  pub later : StoreCall
  pub deciding : Contains (calls_of events client s) put × PutsRow id decision.Committed put × (put.reply ≡ reply.Fault)
  pub failed : Contains (calls_after put.at (calls_of events client s)) later × (is_of_row id later.request ≡ true) × ((later.reply ≡ reply.Fault) ⊎ (later.reply ≡ reply.NoMemory))

-- A record, or a row of the coordinator, isn't of the form of records.
abbrev pub IsBad : Record → Type 0
IsBad r = (name : List ℕ) × MatchBool (is_coordinator_table r.key.table) (decision_in r ≡ Err name) (checked r.columns ≡ Err name)

-- whether a row fits its table of the catalog
abbrev pub is_well_typed : List Table → Key → List Pair → Bool
is_well_typed catalog key columns = option_map_or (λ t. fits_table t key columns) (find_table catalog key.table) true

-- the row that a record means to a statement with these calls doesn't fit its table
abbrev pub is_misfit : List Table → List StoreCall → Record → Bool
is_misfit catalog calls r = not (is_coordinator_table r.key.table) && option_map_or (λ columns. not (is_well_typed catalog r.key columns)) (option_and_then row_of_image (meaning_of calls r)) false

-- A statement on a table reads at a key whose row doesn't fit: a statement of its transaction, this one or one before, whose read has
-- finished, read a record there that means such a row.
pub record MeetsMisfit (catalog : List Table) (events : List Event) (client : ℕ) (s : Executed) (key : Key) : Type 0 where
  pub id : TxId
  pub statement : Statement
  pub table : Table
  pub reader : Executed
  pub call : StoreCall
  pub found : Record
  pub within : IsIn events client s id × IsIn events client reader id × (reader.accepted ≤ s.accepted)
  pub over : Reads s.text statement × (named_table (catalog_after catalog (before s events)) statement ≡ Some table) × (in_access (access_of table statement) key ≡ true)
  pub finished : has_read events client reader ≡ true
  pub reads : Contains (calls_of events client reader) call × (reads_rows call ≡ true) × Contains (records_read call.reply) found × (found.key ≡ key)
  pub misfit : is_misfit (catalog_after catalog (before s events)) (calls_of events client reader) found ≡ true

-- a call of the statement found a record of the key, or a row of the coordinator, that isn't of the form of records
abbrev pub FindsBad : List Event → ℕ → Executed → Key → Type 0
FindsBad events client s key = (m : StoreCall) × (r : Record) × Contains (calls_of events client s) m × Contains (records_observed m.reply) r × (r.key ≡ key) × IsBad r

abbrev pub IsBadRecord : List Table → List Event → ℕ → Executed → Key → Type 0
IsBadRecord catalog events client s key = FindsBad events client s key ⊎ MeetsMisfit catalog events client s key

-- how many keys a transaction may write
abbrev pub most_keys : ℕ
most_keys = 4096

-- the statements of a transaction's body that were accepted before this one
abbrev pub body_before : List Event → TxId → Executed → List Executed
body_before events id s = filter (λ b. nat_lt b.accepted s.accepted) (body events id)

-- its statements that were accepted before this one and whose reads have finished
abbrev pub finished_before : List Event → TxId → Executed → List Executed
finished_before events id s = filter (λ b. nat_lt b.accepted s.accepted) (filter (has_read events (client_of id)) (statements_inside events id))

-- how many rows an answer counts
abbrev pub rows_counted : Option Answer → ℕ
rows_counted (Some (answer.Count n)) = n
rows_counted a = 0

abbrev pub counted_by : Executed → ℕ
counted_by b = rows_counted b.answer

-- how many records the reads among some calls found
abbrev pub records_found : List StoreCall → ℕ
records_found calls = sum_by (λ m. length (records_read m.reply)) (filter reads_rows calls)

-- After so many rows were counted as written, and so many records found, a statement may write more keys than a transaction may: INSERT
-- and UPSERT write one more, UPDATE and DELETE at most one for each record found.
abbrev pub may_pass : ℕ → ℕ → Statement → Bool
may_pass counted found (statement.Insert i) = nat_lt most_keys (counted + 1)
may_pass counted found (statement.Upsert i) = nat_lt most_keys (counted + 1)
may_pass counted found (statement.Update u) = nat_lt most_keys (counted + found)
may_pass counted found (statement.Delete d) = nat_lt most_keys (counted + found)
may_pass counted found st = false

-- It is a statement of a transaction that writes, and by what the statements before it counted and found, and it found, the transaction
-- may write more keys with it than it may.
pub record MayPassMost (events : List Event) (client : ℕ) (s : Executed) : Type 0 where
  pub id : TxId
  pub statement : Statement
  pub within : IsIn events client s id
  pub read : Reads s.text statement
  pub past :
      may_pass (sum_by (λ b. rows_counted b.answer) (body_before events id s))
      (sum_by (λ b. records_found (calls_of events client b)) (finished_before events id s) + records_found (calls_of events client s)) statement ≡ true

-- a delete of a committed record that took effect
abbrev pub removes : StoreCall → Bool
removes m = is_removal m.request && is_applied m.reply

-- INSERT and UPSERT count one row. VACUUM counts the deletes of committed records that were answered as applied. Of UPDATE and DELETE
-- the number is not stated.
abbrev pub IsCounted : List Event → ℕ → Executed → Statement → ℕ → Type 0
IsCounted events client s (statement.Insert i) n = n ≡ 1
IsCounted events client s (statement.Upsert i) n = n ≡ 1
IsCounted events client s (statement.Update u) n = Unit {0}
IsCounted events client s (statement.Delete d) n = Unit {0}
IsCounted events client s (statement.Select x) n = ⊥
IsCounted events client s statement.Begin n = ⊥
IsCounted events client s statement.Commit n = ⊥
IsCounted events client s statement.Rollback n = ⊥
IsCounted events client s statement.Vacuum n = n ≡ count_by removes (calls_of events client s)

---- what each answer says

-- It is the COMMIT of a transaction, and the first decision on this that its calls showed is COMMITTED.
abbrev pub IsOfCommit : List Event → ℕ → Executed → Type 0
IsOfCommit events client s = (id : TxId) × IsCommitOf events client s id × IsDecided decision.Committed (decision_learned (calls_of events client s) id)

-- Why a statement that a client took has its answer. Out of memory needs no cause.
abbrev pub IsCaused : List Table → List Event → ℕ → Executed → Answer → Type 0
IsCaused catalog events client s (answer.Rows rows) = (st : Statement) × Reads s.text st × (is_select st ≡ true) × (is_open (before s events) client ≡ true)
IsCaused catalog events client s (answer.Count n) = (st : Statement) × Reads s.text st × IsCounted events client s st n
IsCaused catalog events client s answer.Done = Reads s.text statement.Begin ⊎ Reads s.text statement.Rollback
IsCaused catalog events client s answer.Committed = IsOfCommit events client s
IsCaused catalog events client s (answer.Duplicate key) = (t : Table) × (i : Insert) × Reads s.text (statement.Insert i) × (find_table (catalog_after catalog (before s events)) i.table ≡ Some t) × (key_of t i ≡ key)
IsCaused catalog events client s (answer.Busy key id at) = IsBusy events client s key id at
IsCaused catalog events client s (answer.Conflict key found) = IsConflict events client s key found
IsCaused catalog events client s (answer.Expired id) = IsExpired events client s id
IsCaused catalog events client s answer.Faulted = HasReply is_fault (calls_of events client s)
IsCaused catalog events client s (answer.Unknown id) = IsUnknown events client s id
IsCaused catalog events client s (answer.BadRecord key) = IsBadRecord catalog events client s key
IsCaused catalog events client s (answer.Refused r) = IsRejected catalog (before s events) client s.text (answer.Refused r) ⊎ ((r.kind ≡ 15) × (r.place ≡ 0) × MayPassMost events client s)
IsCaused catalog events client s answer.Vacuuming = IsRejected catalog (before s events) client s.text answer.Vacuuming
IsCaused catalog events client s answer.OpenTransactions = IsRejected catalog (before s events) client s.text answer.OpenTransactions
IsCaused catalog events client s answer.NoMemory = Unit {0}

-- Every answer of a run has its cause; and a statement that is to be rejected is, at once, unless memory ran out.
pub record AreCaused (catalog : List Table) (events : List Event) : Type 0 where
  pub caused : (client : ℕ) (s : Executed) (a : Answer) → Contains (statements_by client events) s → s.answer ≡ Some a → IsCaused catalog events client s a
  pub rejected : (client : ℕ) (s : Executed) (a : Answer) → Contains (statements_by client events) s → IsRejected catalog (before s events) client s.text a → (s.reached ≡ s.accepted) × ((s.answer ≡ Some a) ⊎ (s.answer ≡ Some answer.NoMemory))
