-- What a statement is answered that finds a record which isn't of the form of records.
use Rattle.std.specs.Prelude.{◌≡◌, ◌⊎◌, ℕ, true, false, List, [], ◌∷◌, ◌++◌, Some, Contains}
use Rattle.std.specs.List.{AllByRecursion}
use Rattle.law_runs.specs.Types.{Answer, Event, Record, Statement, TxId}
use Rattle.sdb_types.specs.declared.record.State.TheVariants as state
use Rattle.sdb_types.specs.Replies.{is_fault}
use Rattle.sdb_record.specs.Coordinator.{coordinator_key_of}
use Rattle.sdb_record.specs.Meta.{id_in, is_in, is_transactional, is_unresolved}
use Rattle.sdb_model.specs.declared.answer.Answer.TheVariants as answer
use Rattle.sdb_model.specs.Calls.{StoreCall, calls_of, records_read}
use Rattle.sdb_model.specs.Causes.{HasReply}
use Rattle.sdb_model.specs.ReadSet.{reads_rows}
use Rattle.sdb_model.specs.Sql.{reads_vacuum}
use Rattle.sdb_model.specs.Transactions.{Executed, statements_by}
use Rattle.law_runs.specs.Complete.{IsOnTable}

-- a record passes the checks
abbrev pub IsTransactional : Record → Type 0
IsTransactional r = is_transactional r ≡ true

-- A read found these records in their order: some that pass the checks, then one that doesn't, and the rest.
pub record FindsMalformed (calls : List StoreCall) (before : List Record) (r : Record) : Type 0 where
  pub read : StoreCall
  pub rest : List Record
  pub among : Contains calls read
  pub reads : reads_rows read ≡ true
  pub found : records_read read.reply ≡ before ++ r ∷ rest
  pub passed : AllByRecursion IsTransactional before
  pub malformed : is_transactional r ≡ false

-- one of these records is unresolved, and of this transaction
pub record HasUnresolved (records : List Record) (id : TxId) : Type 0 where
  pub found : Record
  pub among : Contains records found
  pub unresolved : is_unresolved found ≡ true
  pub writer : id_in found.columns ≡ Some id

-- It is BadRecord of that record. Or the recovery of a record before it ended the statement: Busy of that one, BadRecord of its
-- transaction's row, or a fault. Or it was out of memory.
abbrev pub MalformedEnds : List StoreCall → List Record → Record → Answer → Type 0
MalformedEnds calls before r (answer.BadRecord key) = (key ≡ r.key) ⊎ ((id : TxId) × HasUnresolved before id × (key ≡ coordinator_key_of id))
MalformedEnds calls before r (answer.Busy key id at) = (x : Record) × Contains before x × (x.key ≡ key) × (is_unresolved x ≡ true)
MalformedEnds calls before r answer.Faulted = HasReply is_fault calls
MalformedEnds calls before r answer.NoMemory = Unit {0}
MalformedEnds calls before r a = ⊥

-- A statement on a table that finds a malformed record is answered so.
abbrev pub MalformedAreAnswered : List Event → Type 0
MalformedAreAnswered events =
    (client : ℕ) (s : Executed) (st : Statement) (a : Answer) (before : List Record) (r : Record) → Contains (statements_by client events) s → s.answer ≡ Some a → IsOnTable s.text st
    → FindsMalformed (calls_of events client s) before r → MalformedEnds (calls_of events client s) before r a

-- It made one call, and is answered BadRecord of that record, or was out of memory.
pub record EndsAtOnce (calls : List StoreCall) (read : StoreCall) (r : Record) (a : Answer) : Type 0 where
  pub only : calls ≡ read ∷ []
  pub answered : (a ≡ answer.BadRecord r.key) ⊎ (a ≡ answer.NoMemory)

-- Where each record before it is committed, that read is the statement's only call.
abbrev pub MalformedEndAtOnce : List Event → Type 0
MalformedEndAtOnce events =
    (client : ℕ) (s : Executed) (st : Statement) (a : Answer) (before : List Record) (r : Record) → Contains (statements_by client events) s → s.answer ≡ Some a → IsOnTable s.text st
    → (f : FindsMalformed (calls_of events client s) before r) → AllByRecursion (λ x. is_in state.Committed x.columns ≡ true) before → EndsAtOnce (calls_of events client s) f.read r a

-- A VACUUM whose scan finds a malformed record is answered so too.
abbrev pub VacuumsMeetMalformed : List Event → Type 0
VacuumsMeetMalformed events =
    (client : ℕ) (s : Executed) (a : Answer) (before : List Record) (r : Record) → Contains (statements_by client events) s → s.answer ≡ Some a → reads_vacuum s.text ≡ true
    → FindsMalformed (calls_of events client s) before r → MalformedEnds (calls_of events client s) before r a
