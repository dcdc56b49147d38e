-- Events that no execution has, as values: each is refused by what one law says.
use Rattle.std.specs.Prelude.{◌≡◌, ◌≢◌, ◌<◌, ◌^◌, true, false, pos, ℕ, ℤ, List, [], ◌∷◌, ◌++◌, ◌+◌, Some, None}
use Rattle.law_runs.specs.Types.{Answer, Decision, Event, Insert, Key, Record, Reply, Request, Select, Statement, Table, TxId, Update, Value, Write}
use Rattle.sdb_types.specs.declared.record.Condition.TheVariants as condition
use Rattle.sdb_types.specs.declared.record.Put.{Put}
use Rattle.sdb_types.specs.declared.record.Reply.TheVariants as reply
use Rattle.sdb_types.specs.declared.record.Request.TheVariants as ask
use Rattle.sdb_types.specs.declared.record.State.TheVariants as state
use Rattle.sdb_record.specs.declared.coordinator.Decision.TheVariants as decision
use Rattle.sdb_record.specs.Coordinator.{coordinator_row_of, is_coordinator_table}
use Rattle.sdb_record.specs.Meta.{is_in, is_moment, is_transactional}
use Rattle.sdb_record.specs.Parts.{user_columns}
use Rattle.sdb_record.specs.Rolls.{is_tombstone, prepared_record}
use Rattle.sdb_model.specs.declared.answer.Answer.TheVariants as answer
use Rattle.sdb_model.specs.declared.event.Event.TheVariants as event
use Rattle.sdb_model.specs.declared.event.How.TheVariants.{Seen}
use Rattle.sdb_model.specs.declared.statement.Statement.TheVariants as statement
use Rattle.sdb_model.specs.Access.{in_access}
use Rattle.sdb_model.specs.Exec.{key_of, named_table}
use Rattle.sdb_model.specs.Reads.{access_of}
use Rattle.sdb_model.specs.Sql.{Reads, reads_begin, reads_commit}
use Rattle.sdb_model.specs.Transactions.{client_of, id_of}
use Rattle.law_clients.specs.Fitting.{row_is_well_typed}
use Rattle.law_runs.specs.Laws.{row_put}

-- an id of 128 bits, and a moment that isn't 0
abbrev pub IsOtherMoment : TxId → ℤ → Type 0
IsOtherMoment id now = (id.0 < 2 ^ 128) × (is_moment now ≡ true) × (now ≢ pos 0)

-- an id of a transaction of another client than the first
abbrev pub IsOfOther : TxId → Type 0
IsOfOther id = (id.0 < 2 ^ 128) × (client_of id ≢ 1)

-- A statement is answered Busy as it is accepted.
abbrev pub busy_at_once : List ℕ → Key → TxId → ℤ → List Event
busy_at_once text key id at = event.Take 1 text (Some (answer.Busy key id at)) ∷ []

-- A statement is answered that it counted no rows, without a call.
abbrev pub counted_at_once : List ℕ → List Event
counted_at_once text = event.Take 1 text (Some (answer.Count 0)) ∷ []

-- texts that read as BEGIN and as COMMIT
pub record EmptyTransaction : Type 0 where
  pub begin : List ℕ
  pub commit : List ℕ
  pub begins : reads_begin begin ≡ true
  pub commits : reads_commit commit ≡ true

-- A COMMIT in a transaction is answered Faulted as it is accepted.
abbrev pub faults_at_once : EmptyTransaction → List Event
faults_at_once t = event.Take 1 t.begin (Some answer.Done) ∷ event.Take 1 t.commit (Some answer.Faulted) ∷ []

-- A statement reads a key, and is answered Done.
abbrev pub reads_and_is_done : List ℕ → Key → List Event
reads_and_is_done text key = event.Take 1 text None ∷ event.Call 1 [] (ask.Get key) Seen (reply.Found None) (Some answer.Done) ∷ []

-- A statement that is accepted when the clock shows 0 prepares a record with this moment.
abbrev pub prepares_at : List ℕ → Write → TxId → ℤ → List Event
prepares_at text w id now = event.Take 1 text None ∷ event.Call 1 [] (ask.PutIf (prepared_record w id now) condition.Absent) Seen reply.Applied None ∷ []

-- A statement puts a transaction's row by its first call.
abbrev pub decides_at_once : List ℕ → TxId → Decision → ℤ → List Event
decides_at_once text id d now = event.Take 1 text None ∷ event.Call 1 [] (row_put id d now) Seen reply.Applied None ∷ []

-- It puts the row by the same call as another record.
abbrev pub decides_beside : List ℕ → TxId → Decision → ℤ → Put → List Event
decides_beside text id d now other =
    event.Take 1 text None ∷ event.Call 1 [] (ask.PutAll (record { rec = coordinator_row_of id d now; condition = condition.Absent } ∷ other ∷ [])) Seen reply.Applied None ∷ []

---- answers that statements don't give on what they found

-- A statement on a table of a catalog, and texts that read as BEGIN and as it.
pub record StatementOn : Type 0 where
  pub catalog : List Table
  pub table : Table
  pub statement : Statement
  pub begin : List ℕ
  pub text : List ℕ
  pub begins : reads_begin begin ≡ true
  pub reads : Reads text statement
  pub named : named_table catalog statement ≡ Some table
  pub apart : is_coordinator_table table.name ≡ false

-- It is an INSERT.
pub record InsertOn : Type 0 where
  pub on : StatementOn
  pub insert : Insert
  pub is : on.statement ≡ statement.Insert insert

-- the key of its row
abbrev pub insert_key : InsertOn → Key
insert_key f = key_of f.on.table f.insert

-- It is a SELECT.
pub record SelectOn : Type 0 where
  pub on : StatementOn
  pub select : Select
  pub is : on.statement ≡ statement.Select select

-- It is an UPDATE.
pub record UpdateOn : Type 0 where
  pub on : StatementOn
  pub update : Update
  pub is : on.statement ≡ statement.Update update

-- a committed record that is no tombstone
abbrev pub IsCommittedRow : Record → Type 0
IsCommittedRow r = (is_in state.Committed r.columns ≡ true) × (is_tombstone r ≡ false)

-- a SELECT without tests and LIMIT, and a row of its table at a key that it reads
pub record FindsRow (f : SelectOn) (key : Key) (r : Record) : Type 0 where
  pub tests : f.select.tests ≡ []
  pub limit : f.select.limit ≡ None
  pub inside : key.table ≡ f.on.table.name
  pub reads : in_access (access_of f.on.table f.on.statement) key ≡ true
  pub shows : IsCommittedRow r

-- a SELECT, and a row of its table at a key that it reads, which doesn't fit the table
pub record FindsMisfit (f : SelectOn) (key : Key) (r : Record) : Type 0 where
  pub inside : key.table ≡ f.on.table.name
  pub reads : in_access (access_of f.on.table f.on.statement) key ≡ true
  pub shows : IsCommittedRow r
  pub misfit : row_is_well_typed f.on.catalog key (user_columns r.columns) ≡ false

-- a SELECT, and a record at a key of its table that isn't committed
pub record FindsUnresolved (f : SelectOn) (key : Key) (r : Record) : Type 0 where
  pub inside : key.table ≡ f.on.table.name
  pub unresolved : is_in state.Committed r.columns ≡ false

-- a SELECT, and a record at a key of its table that isn't of the form of records
pub record MeetsMalformed (f : SelectOn) (key : Key) (r : Record) : Type 0 where
  pub inside : key.table ≡ f.on.table.name
  pub malformed : is_transactional r ≡ false

-- a transaction's first statement, which is answered as it is accepted
abbrev pub answered_at_once : StatementOn → Answer → List Event
answered_at_once f a = event.Take 1 f.begin (Some answer.Done) ∷ event.Take 1 f.text (Some a) ∷ []

-- which is answered after a call
abbrev pub answered_after : StatementOn → Request → Reply → Answer → List Event
answered_after f q r a = event.Take 1 f.begin (Some answer.Done) ∷ event.Take 1 f.text None ∷ event.Call 1 [] q Seen r (Some a) ∷ []

-- A SELECT shows rows without a read.
abbrev pub answers_unread : SelectOn → List Value → List (List Value) → List Event
answers_unread f row rows = answered_at_once f.on (answer.Rows (row ∷ rows))

-- It leaves out the row that it found.
abbrev pub leaves_out : SelectOn → Key → Record → List Event
leaves_out f key r = answered_after f.on (ask.Get key) (reply.Found (Some r)) (answer.Rows [])

-- It is answered with rows.
abbrev pub answers_rows : SelectOn → Key → Record → List (List Value) → List Event
answers_rows f key r rows = answered_after f.on (ask.Get key) (reply.Found (Some r)) (answer.Rows rows)

-- It shows a row where it found a record, which it didn't roll.
abbrev pub answers_unrolled : SelectOn → Key → Record → List Value → List Event
answers_unrolled f key r row = answered_after f.on (ask.Get key) (reply.Found (Some r)) (answer.Rows (row ∷ []))

-- It shows two rows.
abbrev pub answers_two : SelectOn → Request → Reply → List Value → List Value → List Event
answers_two f q r a b = answered_after f.on q r (answer.Rows (a ∷ b ∷ []))

-- An UPDATE counts rows without a read.
abbrev pub counts_unread : UpdateOn → ℕ → List Event
counts_unread f n = answered_at_once f.on (answer.Count (n + 1))

-- An INSERT is counted over a row that it found.
abbrev pub counts_over : InsertOn → Record → List Event
counts_over f r = answered_after f.on (ask.Get (insert_key f)) (reply.Found (Some r)) (answer.Count 1)

-- An INSERT finds nothing and is counted, and the same INSERT is counted again after it.
abbrev pub counts_twice : InsertOn → List Event
counts_twice f = answered_after f.on (ask.Get (insert_key f)) (reply.Found None) (answer.Count 1) ++ event.Take 1 f.on.text (Some (answer.Count 1)) ∷ []

-- An INSERT finds nothing and is answered Duplicate.
abbrev pub duplicates_none : InsertOn → List Event
duplicates_none f = answered_after f.on (ask.Get (insert_key f)) (reply.Found None) (answer.Duplicate (insert_key f))

-- An INSERT finds nothing and is counted, and the same one after it reads the key again.
abbrev pub reads_again : InsertOn → List Event
reads_again f =
    answered_after f.on (ask.Get (insert_key f)) (reply.Found None) (answer.Count 1)
    ++ event.Take 1 f.on.text None ∷ event.Call 1 [] (ask.Get (insert_key f)) Seen (reply.Found None) None ∷ []

---- COMMITs that prepare otherwise than what was written

-- a text that reads as COMMIT, and the write and the moment of a prepare
pub record CommitText : Type 0 where
  pub text : List ℕ
  pub commits : reads_commit text ≡ true
  pub write : Write
  pub now : ℤ

-- a write's prepared record of client 1's first transaction is to be put where there is none
abbrev pub put_first : Write → ℤ → Put
put_first w now = record { rec = prepared_record w (id_of 1 1) now; condition = condition.Absent }

-- the put of such a record
abbrev pub prepare_first : CommitText → Request
prepare_first t = ask.PutIf (prepared_record t.write (id_of 1 1) t.now) condition.Absent

-- the put of two such records at once
abbrev pub prepare_two : CommitText → Write → Request
prepare_two t w = ask.PutAll (put_first t.write t.now ∷ put_first w t.now ∷ [])

-- its put of its row COMMITTED
abbrev pub decide_first : CommitText → Request
decide_first t = row_put (id_of 1 1) decision.Committed t.now

-- A call of the client is seen, and its statement isn't answered.
abbrev pub seen_so : Request → Reply → Event
seen_so q r = event.Call 1 [] q Seen r None

-- A COMMIT prepares a key that its transaction only read.
abbrev pub prepares_unwritten : SelectOn → Record → List Value → CommitText → List Event
prepares_unwritten f r row t = answered_after f.on (ask.Get t.write.key) (reply.Found (Some r)) (answer.Rows (row ∷ [])) ++ event.Take 1 t.text None ∷ seen_so (prepare_first t) reply.Applied ∷ []

-- One prepares another key by the same call as the one that its transaction inserted.
abbrev pub prepares_another : InsertOn → CommitText → Write → List Event
prepares_another f t w = answered_after f.on (ask.Get (insert_key f)) (reply.Found None) (answer.Count 1) ++ event.Take 1 t.text None ∷ seen_so (prepare_two t w) reply.Applied ∷ []

-- One decides on COMMITTED and hasn't prepared the row that its transaction inserted.
abbrev pub decides_unprepared : InsertOn → CommitText → List Event
decides_unprepared f t = answered_after f.on (ask.Get (insert_key f)) (reply.Found None) (answer.Count 1) ++ event.Take 1 t.text None ∷ seen_so (decide_first t) reply.Applied ∷ []

-- One does so after a prepare that faulted.
abbrev pub decides_unapplied : InsertOn → CommitText → List Event
decides_unapplied f t =
    answered_after f.on (ask.Get (insert_key f)) (reply.Found None) (answer.Count 1)
    ++ event.Take 1 t.text None ∷ seen_so (prepare_first t) reply.Fault ∷ seen_so (decide_first t) reply.Applied ∷ []

-- One does so before its prepare.
abbrev pub decides_early : InsertOn → CommitText → List Event
decides_early f t =
    answered_after f.on (ask.Get (insert_key f)) (reply.Found None) (answer.Count 1)
    ++ event.Take 1 t.text None ∷ seen_so (decide_first t) reply.Applied ∷ seen_so (prepare_first t) reply.Applied ∷ []

---- COMMITs that roll otherwise than they prepared

-- the put of its row ABORTED
abbrev pub abort_first : CommitText → Request
abort_first t = row_put (id_of 1 1) decision.Aborted t.now

-- the delete of the record that it prepared
abbrev pub delete_first : CommitText → Request
delete_first t = ask.DeleteIf t.write.key (condition.Version (id_of 1 1) state.Prepared)

-- A COMMIT whose prepare and deciding put were applied is answered Committed, and hasn't rolled the record forward.
abbrev pub ends_unfinished : InsertOn → CommitText → List Event
ends_unfinished f t =
    answered_after f.on (ask.Get (insert_key f)) (reply.Found None) (answer.Count 1)
    ++ event.Take 1 t.text None ∷ seen_so (prepare_first t) reply.Applied ∷ event.Call 1 [] (decide_first t) Seen reply.Applied (Some answer.Committed) ∷ []

-- It has made a get of the key in place of that.
abbrev pub reads_for_rolls : InsertOn → CommitText → Record → List Event
reads_for_rolls f t r =
    answered_after f.on (ask.Get (insert_key f)) (reply.Found None) (answer.Count 1)
    ++ event.Take 1 t.text None
    ∷ seen_so (prepare_first t) reply.Applied ∷ seen_so (decide_first t) reply.Applied ∷ event.Call 1 [] (ask.Get t.write.key) Seen (reply.Found (Some r)) (Some answer.Committed) ∷ []

-- A COMMIT whose prepare was not met puts its row ABORTED, rolls a record back nevertheless, and is answered Conflict.
abbrev pub rolls_unprepared : InsertOn → CommitText → Record → List Event
rolls_unprepared f t r =
    answered_after f.on (ask.Get (insert_key f)) (reply.Found None) (answer.Count 1)
    ++ event.Take 1 t.text None
    ∷ seen_so (prepare_first t) (reply.NotMet (Some r)) ∷ seen_so (abort_first t) reply.Applied ∷ event.Call 1 [] (delete_first t) Seen reply.Applied (Some (answer.Conflict t.write.key (Some r))) ∷ []

---- answers over a malformed record

-- A SELECT finds a record, and is answered BadRecord of a key.
abbrev pub answers_bad : SelectOn → Key → Record → Key → List Event
answers_bad f key r other = answered_after f.on (ask.Get key) (reply.Found (Some r)) (answer.BadRecord other)

-- It is answered so after another call.
abbrev pub answers_bad_later : SelectOn → Key → Record → Key → List Event
answers_bad_later f key r other =
    event.Take 1 f.on.begin (Some answer.Done)
    ∷ event.Take 1 f.on.text None ∷ seen_so (ask.Get key) (reply.Found (Some r)) ∷ event.Call 1 [] (ask.Get key) Seen (reply.Found (Some r)) (Some (answer.BadRecord other)) ∷ []
