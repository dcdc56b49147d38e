-- What the laws of executions speak of.
use Rattle.std.specs.Prelude.{◌≡◌, ◌⊎◌, ◌<◌, ◌≤◌, ◌^◌, ℕ, ℤ, true, false, List, [], None, Some, Contains, codes}
use Rattle.std.specs.List.{count_by}
use Rattle.law_runs.specs.Types.{Decision, Event, Key, Record, Request, Script, TxId}
use Rattle.sdb_types.specs.declared.record.Condition.TheVariants as condition
use Rattle.sdb_types.specs.declared.record.Reply.TheVariants as reply
use Rattle.sdb_types.specs.declared.record.Request.TheVariants as ask
use Rattle.sdb_record.specs.declared.coordinator.Decision.TheVariants as decision
use Rattle.sdb_record.specs.Coordinator.{coordinator_key_of, coordinator_row_of, is_expired}
use Rattle.sdb_record.specs.Meta.{id_in, is_unresolved, moment_in}
use Rattle.sdb_model.specs.declared.answer.Answer.TheVariants as answer
use Rattle.sdb_model.specs.Follows.{Follows}
use Rattle.sdb_model.specs.ReadSet.{reads_rows}
use Rattle.sdb_model.specs.Sql.{reads_begin, reads_commit, reads_rollback, reads_vacuum}
use Rattle.sdb_model.specs.Calls.{StoreCall, calls_after, calls_by, calls_of, clock_at, is_read, records_read}
use Rattle.sdb_model.specs.Requests.{keys_asked, records_put}
use Rattle.sdb_model.specs.Causes.{IsCommitOf}
use Rattle.sdb_model.specs.Transactions.{Executed, prepares, statements_by}
use Rattle.law_clients.specs.Invariant.{RunInvariant}
use Rattle.law_clients.specs.Fitting.{tables_are_well_typed}
use Rattle.law_clients.specs.States.{ClientState, doing_of, system_of}
use Rattle.sdb_client.specs.Execution.{IsExecution, IsPlayable}
use Rattle.law_runs.specs.World.{states_of}
use Rattle.law_runs.specs.Linked.{on_one}

-- An execution of a script that can be run.
pub record ExecutionOf : Type 0 where
  pub script : Script
  pub events : List Event
  pub playable : IsPlayable script
  pub execution : IsExecution script events

-- its events follow the moves of the script
abbrev pub FollowsMoves : ExecutionOf → Type 0
FollowsMoves x = Follows x.script x.events

-- its clients after its events
abbrev pub states_after : ExecutionOf → ℕ → ClientState
states_after x = states_of x.execution.last.client_slots

-- The rules of the protocol hold of its events, and the knowledge, the history and the execution of each client are those of the events,
-- wherever its tables are kept.
abbrev pub RulesHold : ExecutionOf → Type 0
RulesHold x = RunInvariant x.script.catalog tables_are_well_typed (on_one x.events) (system_of (states_after x)) (doing_of (states_after x))

-- A call is one of a statement of its client.
pub record IsOfStatement (events : List Event) (client : ℕ) (m : StoreCall) : Type 0 where
  pub statement : Executed
  pub among : Contains (statements_by client events) statement
  pub call : Contains (calls_of events client statement) m

-- Each call is one.
abbrev pub CallsAreOfStatements : List Event → Type 0
CallsAreOfStatements events = (client : ℕ) (m : StoreCall) → Contains (calls_by events client) m → IsOfStatement events client m

-- a text is no COMMIT and no VACUUM
abbrev pub IsOfRead : List ℕ → Type 0
IsOfRead text = (reads_commit text ≡ false) × (reads_vacuum text ≡ false)

-- A statement that is answered Busy is neither.
abbrev pub BusyIsOfReads : List Event → Type 0
BusyIsOfReads events =
    (client : ℕ) (s : Executed) (key : Key) (id : TxId) (at : ℤ) → Contains (statements_by client events) s
    → s.answer ≡ Some (answer.Busy key id at) → IsOfRead s.text

-- A call of a statement prepares for a transaction, and this is a record that it puts.
pub record PreparedBy (events : List Event) (client : ℕ) (s : Executed) (m : StoreCall) (id : TxId) (r : Record) : Type 0 where
  pub among : Contains (statements_by client events) s
  pub call : Contains (calls_of events client s) m
  pub fits : id.0 < 2 ^ 128
  pub is : prepares id m.request ≡ true
  pub puts : Contains (records_put m.request) r

-- The statement is the COMMIT of that transaction, and the record has the moment that the clock showed when this was accepted.
pub record IsOwnPrepare (events : List Event) (client : ℕ) (s : Executed) (id : TxId) (r : Record) : Type 0 where
  pub commit : IsCommitOf events client s id
  pub moment : moment_in r.columns (codes "tx_prepared_at") ≡ Some (clock_at events s.accepted)

-- This holds of each.
abbrev pub PreparesAreOwn : List Event → Type 0
PreparesAreOwn events =
    (client : ℕ) (s : Executed) (m : StoreCall) (id : TxId) (r : Record) → PreparedBy events client s m id r → IsOwnPrepare events client s id r

-- At most one of the calls reads rows of tables.
abbrev pub ReadsOnce : List StoreCall → Type 0
ReadsOnce calls = count_by reads_rows calls ≤ 1

-- A statement that is no COMMIT and no VACUUM reads rows by one call at most; BEGIN and ROLLBACK make no call.
abbrev pub AreFewReads : List ℕ → List StoreCall → Type 0
AreFewReads text calls =
    (reads_commit text ≡ false → reads_vacuum text ≡ false → ReadsOnce calls)
    × ((reads_begin text ≡ true) ⊎ (reads_rollback text ≡ true) → calls ≡ [])

-- This holds of each.
abbrev pub ReadsAreFew : List Event → Type 0
ReadsAreFew events = (client : ℕ) (s : Executed) → Contains (statements_by client events) s → AreFewReads s.text (calls_of events client s)

-- A call writes the coordinator's row of a transaction, alone or with other records.
abbrev pub WritesRow : TxId → StoreCall → Type 0
WritesRow id m = Contains (keys_asked m.request) (coordinator_key_of id) × (is_read m.request ≡ false)

-- the put of that row with a decision and a moment, on condition that there is none
abbrev pub row_put : TxId → Decision → ℤ → Request
row_put id d now = ask.PutIf (coordinator_row_of id d now) condition.Absent

-- The statement is the COMMIT of the transaction, and puts its row with the moment that the clock showed when this was accepted.
pub record IsOwnDecision (events : List Event) (client : ℕ) (s : Executed) (id : TxId) (m : StoreCall) : Type 0 where
  pub commit : IsCommitOf events client s id
  pub decision : Decision
  pub asks : m.request ≡ row_put id decision (clock_at events s.accepted)

-- After a read among the calls had found an unresolved record of a transaction, a get of its row found none, while the clock showed 15 seconds
-- or more than the record's moment.
pub record HasExpired (events : List Event) (calls : List StoreCall) (id : TxId) (look : StoreCall) : Type 0 where
  pub read : StoreCall
  pub found : Record
  pub at : ℤ
  pub reads : Contains calls read × (is_read read.request ≡ true) × Contains (records_read read.reply) found
  pub unresolved : (is_unresolved found ≡ true) × (id_in found.columns ≡ Some id) × (moment_in found.columns (codes "tx_prepared_at") ≡ Some at)
  pub looks : Contains (calls_after read.at calls) look × (look.request ≡ ask.Get (coordinator_key_of id)) × (look.reply ≡ reply.Found None)
  pub late : is_expired at (clock_at events look.at) ≡ true

-- After that a call puts the row ABORTED, with the moment that the clock showed then.
pub record GivesUp (events : List Event) (calls : List StoreCall) (m : StoreCall) (id : TxId) : Type 0 where
  pub look : StoreCall
  pub expired : HasExpired events calls id look
  pub before : look.at < m.at
  pub asks : m.request ≡ row_put id decision.Aborted (clock_at events look.at)

-- A call that writes a transaction's row is one of its own COMMIT; or it puts ABORTED, after a record of the transaction has expired.
abbrev pub DecisionsAreDue : List Event → Type 0
DecisionsAreDue events =
    (client : ℕ) (s : Executed) (m : StoreCall) (id : TxId) → Contains (statements_by client events) s → Contains (calls_of events client s) m → id.0 < 2 ^ 128
    → WritesRow id m → IsOwnDecision events client s id m ⊎ GivesUp events (calls_of events client s) m id
