-- Completeness: which answers are left to a statement whose calls the stores serve.
use Rattle.std.specs.Prelude.{◌≡◌, ◌≢◌, ◌⊎◌, ℕ, ℤ, true, false, List, Option, Some, Contains, is_some}
use Rattle.law_runs.specs.Types.{Answer, Event, Insert, Key, Record, Statement, Table, TxId}
use Rattle.sdb_types.specs.declared.record.Reply.TheVariants as reply
use Rattle.sdb_types.specs.Replies.{is_fault}
use Rattle.sdb_record.specs.declared.coordinator.Decision.TheVariants as decision
use Rattle.sdb_record.specs.Coordinator.{is_coordinator_table}
use Rattle.sdb_record.specs.Meta.{is_unresolved}
use Rattle.sdb_model.specs.declared.answer.Answer.TheVariants as answer
use Rattle.sdb_model.specs.declared.event.How.TheVariants.{Seen}
use Rattle.sdb_model.specs.declared.statement.Statement.TheVariants as statement
use Rattle.sdb_model.specs.Calls.{StoreCall, calls_of, records_observed, records_read}
use Rattle.sdb_model.specs.Causes.{HasChanged, IsBad, IsBusy, IsChecked, IsCommitOf, IsConflictAtScan, IsCounted, IsIn, IsRebased, IsRejected, IsUnmet, MayPassMost, MeetsMisfit, PutsRow, before, is_select}
use Rattle.sdb_model.specs.Counted.{IsPassedOver, IsResolved}
use Rattle.sdb_model.specs.Exec.{table_of}
use Rattle.sdb_model.specs.InFlight as in_flight
use Rattle.sdb_model.specs.ReadSet.{ReadItem, read_set_of, reads_rows}
use Rattle.sdb_model.specs.Sql.{Reads, reads_commit}
use Rattle.sdb_model.specs.Transactions.{Executed, statements_by}

---- a statement and its stores

-- The stores served these calls: none faulted, and none was out of memory.
abbrev pub AreServed : List StoreCall → Type 0
AreServed calls = (m : StoreCall) → Contains calls m → (is_fault m.reply ≡ false) × (m.reply ≢ reply.NoMemory)

-- Each was seen, and none was out of memory.
abbrev pub AreSeen : List StoreCall → Type 0
AreSeen calls = (m : StoreCall) → Contains calls m → (m.how ≡ Seen) × (m.reply ≢ reply.NoMemory)

-- Calls of statements that were seen, and of which none was out of memory, were served.
abbrev pub SeenAreServed : List Event → Type 0
SeenAreServed events =
    (client : ℕ) (s : Executed) → Contains (statements_by client events) s → AreSeen (calls_of events client s) → AreServed (calls_of events client s)

-- These calls observed no record of some kind.
abbrev pub ObserveNone : (Record → Type 0) → List StoreCall → Type 0
ObserveNone P calls = (m : StoreCall) (r : Record) → Contains calls m → Contains (records_observed m.reply) r → P r → ⊥

abbrev pub IsUnresolved : Record → Type 0
IsUnresolved r = is_unresolved r ≡ true

abbrev pub IsCoordinatorRow : Record → Type 0
IsCoordinatorRow r = is_coordinator_table r.key.table ≡ true

-- A statement that has this answer was not to be rejected when it was accepted, and the stores served its calls.
pub record IsServed (catalog : List Table) (events : List Event) (client : ℕ) (s : Executed) (a : Answer) : Type 0 where
  pub among : Contains (statements_by client events) s
  pub is : s.answer ≡ Some a
  pub accepted : (b : Answer) → IsRejected catalog (before s events) client s.text b → ⊥
  pub served : AreServed (calls_of events client s)

---- COMMIT

-- What the calls of a COMMIT observed at a key is what its transaction read there, where a prepare of the key was not met, or a check came to
-- it and it wasn't prepared. And each prepare is over the version that the transaction's scans read: reads of one key agree.
pub record IsUnchanged (calls : List StoreCall) (read_set : List ReadItem) (id : TxId) : Type 0 where
  pub observed : (key : Key) (found : Option Record) → IsUnmet calls id key found ⊎ IsChecked calls id key found → HasChanged read_set key found → ⊥
  pub agreed : (key : Key) → IsRebased calls read_set id key → ⊥

-- A COMMIT is uncontended: what its transaction read is unchanged, and its calls observed no row of the coordinator.
pub record IsUncontended (events : List Event) (client : ℕ) (s : Executed) : Type 0 where
  pub commit : reads_commit s.text ≡ true
  pub unchanged : (id : TxId) → IsCommitOf events client s id → IsUnchanged (calls_of events client s) (read_set_of events id) id
  pub undecided : ObserveNone IsCoordinatorRow (calls_of events client s)

-- A call of a COMMIT put its transaction's row COMMITTED, and was applied.
pub record HasCommitted (events : List Event) (client : ℕ) (s : Executed) : Type 0 where
  pub id : TxId
  pub commit : IsCommitOf events client s id
  pub put : StoreCall
  pub among : Contains (calls_of events client s) put
  pub puts : PutsRow id decision.Committed put
  pub applied : put.reply ≡ reply.Applied

-- No call of it puts its transaction's row COMMITTED, alone or with other records.
abbrev pub HasNotDecided : List Event → ℕ → Executed → Type 0
HasNotDecided events client s =
    (id : TxId) (m : StoreCall) → IsCommitOf events client s id → Contains (calls_of events client s) m → in_flight.PutsRow id decision.Committed m.request → ⊥

-- It is answered Committed, and its put of COMMITTED was applied; or it was out of memory, and has made no such put.
abbrev pub CommitEnds : List Event → ℕ → Executed → Answer → Type 0
CommitEnds events client s answer.Committed = HasCommitted events client s
CommitEnds events client s answer.NoMemory = HasNotDecided events client s
CommitEnds events client s a = ⊥

-- An uncontended COMMIT whose calls were served ends so.
abbrev pub UncontendedCommitsComplete : List Table → List Event → Type 0
UncontendedCommitsComplete catalog events =
    (client : ℕ) (s : Executed) (a : Answer) → IsServed catalog events client s a → IsUncontended events client s → CommitEnds events client s a

---- statements on tables

-- SELECT, INSERT, UPSERT, UPDATE or DELETE.
pub record IsOnTable (text : List ℕ) (st : Statement) : Type 0 where
  pub reads : Reads text st
  pub table : is_some (table_of st) ≡ true

-- It is answered as a statement of its kind is; or Conflict, where its scan differs from what its transaction had read; or Busy, where a
-- transaction whose record it read may still decide; or BadRecord, where a row that its transaction has read at a key of its access doesn't
-- fit its table; or refused, where the transaction might write too many keys; or it was out of memory.
abbrev pub StatementEnds : List Table → List Event → ℕ → Executed → Statement → Answer → Type 0
StatementEnds catalog events client s st (answer.Rows rows) = is_select st ≡ true
StatementEnds catalog events client s st (answer.Count n) = IsCounted events client s st n
StatementEnds catalog events client s st (answer.Duplicate key) = (i : Insert) × (st ≡ statement.Insert i)
StatementEnds catalog events client s st (answer.Conflict key found) = (id : TxId) × IsIn events client s id × IsConflictAtScan events client s id key found
StatementEnds catalog events client s st (answer.Busy key id at) = IsBusy events client s key id at
StatementEnds catalog events client s st (answer.BadRecord key) = MeetsMisfit catalog events client s key
StatementEnds catalog events client s st (answer.Refused r) = (r.kind ≡ 15) × (r.place ≡ 0) × MayPassMost events client s
StatementEnds catalog events client s st answer.NoMemory = Unit {0}
StatementEnds catalog events client s st a = ⊥

-- A statement on a table whose calls were served, and observed no malformed record or row of the coordinator, ends so.
abbrev pub StatementsComplete : List Table → List Event → Type 0
StatementsComplete catalog events =
    (client : ℕ) (s : Executed) (st : Statement) (a : Answer) → IsServed catalog events client s a → IsOnTable s.text st
    → ObserveNone IsBad (calls_of events client s) → StatementEnds catalog events client s st a

-- One whose calls observed no unresolved record isn't answered Busy.
abbrev pub ResolvedAreNotBusy : List Event → Type 0
ResolvedAreNotBusy events =
    (client : ℕ) (s : Executed) (key : Key) (id : TxId) (at : ℤ) → Contains (statements_by client events) s
    → ObserveNone IsUnresolved (calls_of events client s) → s.answer ≡ Some (answer.Busy key id at) → ⊥

---- recoveries

-- A call of a statement read a record that is unresolved.
pub record ReadsUnresolved (calls : List StoreCall) (m : StoreCall) (r : Record) : Type 0 where
  pub among : Contains calls m
  pub reads : reads_rows m ≡ true
  pub found : Contains (records_read m.reply) r
  pub unresolved : is_unresolved r ≡ true

-- What the recovery of a record that a statement read comes to: the record is rolled, or found as another has rolled it, or a VACUUM passes
-- over it before it has expired. Or else it ends with the statement, which is answered Busy before a record that it read has expired, or that it
-- was out of memory.
abbrev pub RecoveryEnds : List Event → ℕ → Executed → StoreCall → Record → Answer → Type 0
RecoveryEnds events client s m r (answer.Busy key id at) = IsBusy events client s key id at
RecoveryEnds events client s m r answer.NoMemory = Unit {0}
RecoveryEnds events client s m r a = IsResolved (calls_of events client s) m r ⊎ IsPassedOver events s (calls_of events client s) m r

-- Each recovery of a statement ends so, where the stores served its calls, and these observed no malformed record or row of the coordinator.
abbrev pub RecoveriesComplete : List Table → List Event → Type 0
RecoveriesComplete catalog events =
    (client : ℕ) (s : Executed) (a : Answer) (m : StoreCall) (r : Record) → IsServed catalog events client s a → reads_commit s.text ≡ false
    → ObserveNone IsBad (calls_of events client s) → ReadsUnresolved (calls_of events client s) m r → RecoveryEnds events client s m r a
