-- The events so far with the run invariant, and its preservation by one more event.
use Rattle.std.specs.Prelude.{◌≡◌, ◌<◌, ◌^◌, All, ℕ, ℤ, Bool, true, false, List, [], ◌∷◌, ◌++◌, Option, Some}
use Rattle.law_clients.specs.Types.{Access, Answer, Event, Keyed, Point, Record, Script, Statement, Table, TableDump, TxId}
use Rattle.sdb_model.specs.declared.event.Event.TheVariants as event
use Rattle.sdb_model.specs.declared.event.Outcome.{Outcome}
use Rattle.sdb_model.specs.Calls.{StoreCall}
use Rattle.sdb_model.specs.Catalogs.{catalog_after}
use Rattle.sdb_model.specs.Events.{IsTrace, StoreContents}
use Rattle.sdb_model.specs.Exec.{Tables}
use Rattle.sdb_model.specs.Follows.{Follows}
use Rattle.sdb_model.specs.Sql.{Reads, reads_commit}
use Rattle.sdb_model.specs.ReadSet.{read_finished}
use Rattle.sdb_model.specs.Transactions.{IsOrder, changes_nothing, is_answered_from_rows}
use Rattle.law_protocol.specs.History.{at}
use Rattle.law_protocol.specs.Trace.{StartsEmpty}
use Rattle.sdb_phases.specs.Commit.{preparing}
use Rattle.sdb_snapshot.specs.Seen.{Seen, with_written}
use Rattle.sdb_snapshot.specs.Written.{AreChanges}
use Rattle.law_clients.specs.Reads.{MayRecord, with_read, work_of}
use Rattle.law_clients.specs.ReadAt.{Done, IsOfData, ReadAt, read_pending, read_step}
use Rattle.law_clients.specs.Vacuum.{VacuumModel, vacuum_call, vacuum_model_step}
use Rattle.law_clients.specs.System.{ClientAt, ClientCall, IsReplyTo, Open, Reading, RunsVacuum, SystemAt, call_event, commit_left, with_client}
use Rattle.law_clients.specs.Body.{AnswersOn, IsCovered}
use Rattle.law_clients.specs.Calls.{IsMade, ReadMade}
use Rattle.law_clients.specs.Left.{IsFitting}
use Rattle.law_clients.specs.Invariant.{RunInvariant, IsInner}

-- The events so far over a catalog, the clients as they are and the statements that they run, and the invariant of these.
pub record Progress : Type 0 where
  pub catalog : List Table
  pub fit : List Table → Tables → Bool
  pub events : List Event
  pub sys : SystemAt
  pub doing : ℕ → Option Statement
  pub running : RunInvariant catalog fit events sys doing

-- the tables of the moment
abbrev pub tables_in : Progress → List Table
tables_in p = catalog_after p.catalog p.events

-- The invariant holds of the events so far and these clients too.
abbrev pub IsPreservedAs : Progress → SystemAt → (ℕ → Option Statement) → Type 0
IsPreservedAs p sys doing = RunInvariant p.catalog p.fit p.events sys doing

-- After one more event it holds of clients in these states, where one of them runs that statement.
abbrev pub After : Progress → ℕ → Event → SystemAt → Option Statement → Type 0
After p c e sys st = RunInvariant p.catalog p.fit (p.events ++ e ∷ []) sys (at p.doing c st)

-- A text of a client was accepted and was answered so, or waits; and then the client is in this state and runs that statement.
abbrev pub AfterTake : Progress → ℕ → List ℕ → Option Answer → ClientAt → Option Statement → Type 0
AfterTake p c text answer y st = After p c (event.Take c text answer) (with_client p.sys c y) st

-- A call was made, and its reply gave that answer, or none; and then its client is in this state and runs that statement.
abbrev pub AfterReply : Progress → ClientCall → Option Answer → ClientAt → Option Statement → Type 0
AfterReply p call answer y st = After p call.client (call_event call answer) (with_client p.sys call.client y) st

-- A client runs a statement.
abbrev pub Runs : Progress → ℕ → Type 0
Runs p c = (st : Statement) × (p.doing c ≡ Some st)

-- These clients are in the states of those of a progress, and run the same.
pub record IsSame (p : Progress) (sys : SystemAt) (doing : ℕ → Option Statement) : Type 0 where
  pub clients : (c : ℕ) → p.sys.clients c ≡ sys.clients c
  pub begun : (c : ℕ) → p.sys.begun c ≡ sys.begun c
  pub running : (c : ℕ) → p.doing c ≡ doing c

---- statements as they are accepted

-- A client with an open transaction, and the text that is accepted of it.
pub record Asked (p : Progress) : Type 0 where
  pub client : ℕ
  pub text : List ℕ
  pub id : TxId
  pub seen : Seen
  pub is_open : p.sys.clients client ≡ Open id seen

-- Its text was accepted and was answered so, or waits; and then the client is in this state and runs that statement.
abbrev pub AfterAsked : {p : Progress} → Asked p → Option Answer → ClientAt → Option Statement → Type 0
AfterAsked {p} q answer y st = AfterTake p q.client q.text answer y st

-- The text is a statement that reads at an access of the tables, and neither begins nor ends a transaction.
pub record MayRead {p : Progress} (q : Asked p) (st : Statement) (a : Access) : Type 0 where
  pub of_data : IsOfData a
  pub reads : Reads q.text st
  pub inner : IsInner q.text

-- where it is once its COMMIT is accepted
abbrev pub committing : {p : Progress} → Asked p → ℤ → ClientAt
committing q now = let w = work_of q.id now q.seen in commit_left w (preparing w 0)

-- The answer to a statement is that of rows at an access, which is covered by what was read, and the changes are the statement's.
pub record FromRows (p : Progress) (seen : Seen) (a : Access) : Type 0 where
  pub statement : Statement
  pub answer : Answer
  pub changes : List Keyed
  pub from_rows : is_answered_from_rows answer ≡ true
  pub covered : IsCovered seen a
  pub answers : AnswersOn (tables_in p) (p.fit (tables_in p)) seen statement a answer changes
  pub are_changes : AreChanges seen.read_set changes

-- It is answered at once, from what was read before.
pub record AskedRows (p : Progress) : Type 0 where
  pub asked : Asked p
  pub a : Access
  pub rows : FromRows p asked.seen a
  pub no_commit : reads_commit asked.text ≡ false
  pub reads : Reads asked.text rows.statement

-- what its transaction has then read and written
abbrev pub seen_asked : {p : Progress} → AskedRows p → Seen
seen_asked q = with_written q.asked.seen q.rows.changes

---- replies

-- A reply to the pending call of a read.
pub record ReadReply (p : Progress) : Type 0 where
  pub call : ClientCall
  pub id : TxId
  pub seen : Seen
  pub asked : Access
  pub stage : ReadAt
  pub reads : p.sys.clients call.client ≡ Reading id seen asked stage
  pub replies : IsReplyTo (read_pending asked stage) call

-- where it takes the read to
abbrev pub read_next : {p : Progress} → ReadReply p → ReadAt
read_next r = read_step r.stage r.call.now r.call.reply

-- A statement is answered so with this reply, and by whatever calls its read has made up to it, the read has not finished.
abbrev pub IsUnfinished : {p : Progress} → ReadReply p → Answer → Type 0
IsUnfinished r b = (ms : List StoreCall) (m : StoreCall) → ReadMade ms r.asked r.stage → IsMade m r.call.request r.call.reply → read_finished (ms ++ m ∷ []) b ≡ false

-- By whatever calls an access was read, a statement that is answered so has finished its read.
abbrev pub FinishesOn : Access → List Record → Answer → Type 0
FinishesOn a images b = (ms : List StoreCall) → ReadMade ms a (Done images) → read_finished ms b ≡ true

-- The reply that a read was done with, and the answer to its statement, which changes nothing.
pub record DoneReply (p : Progress) : Type 0 where
  pub reply : ReadReply p
  pub images : List Record
  pub done : read_next reply ≡ Done images
  pub may_note : MayRecord reply.seen reply.asked images
  pub answer : Answer
  pub nothing : changes_nothing answer ≡ true
  pub finishes : FinishesOn reply.asked images answer
  pub runs : (st : Statement) × (p.doing reply.call.client ≡ Some st)

-- what its transaction has then read
abbrev pub seen_done : {p : Progress} → DoneReply p → Seen
seen_done r = with_read r.reply.seen r.reply.asked r.images

-- The reply that a read was done with, and the answer to its statement from the rows.
pub record LastReply (p : Progress) : Type 0 where
  pub reply : ReadReply p
  pub images : List Record
  pub done : read_next reply ≡ Done images
  pub may_note : MayRecord reply.seen reply.asked images
  pub answered : FromRows p (with_read reply.seen reply.asked images) reply.asked
  pub runs : p.doing reply.call.client ≡ Some answered.statement

-- what its transaction has then read and written
abbrev pub seen_after : {p : Progress} → LastReply p → Seen
seen_after r = with_written (with_read r.reply.seen r.reply.asked r.images) r.answered.changes

-- A reply to the pending call of a VACUUM.
pub record VacuumReplied (p : Progress) : Type 0 where
  pub call : ClientCall
  pub stage : VacuumModel
  pub vacuums : p.sys.clients call.client ≡ RunsVacuum stage
  pub replies : IsReplyTo (vacuum_call stage) call

-- where it takes the VACUUM to
abbrev pub vacuum_next_at : {p : Progress} → VacuumReplied p → VacuumModel
vacuum_next_at r = vacuum_model_step r.stage r.call.now r.call.reply

---- the end of the events

-- Events of which the invariant holds follow the moves of a script, and agree with stores whose tables began empty; and the transactions
-- that are recorded have an order.
pub record Ending (script : Script) : Type 0 where
  pub fit : List Table → Tables → Bool
  pub events : List Event
  pub sys : SystemAt
  pub doing : ℕ → Option Statement
  pub opening : List StoreContents
  pub closing : List StoreContents
  pub moments : List (List StoreContents)
  pub order : List Point
  pub fitting : IsFitting script.catalog fit
  pub running : RunInvariant script.catalog fit events sys doing
  pub follows : Follows script events
  pub traced : IsTrace script.places events opening moments closing
  pub empty : StartsEmpty script.places opening
  pub ordered : IsOrder script.places events closing order
  pub ids : All (λ (x : Point). x.id.0 < 2 ^ 128) order

-- their outcome, with tables to print
abbrev pub outcome_with : {script : Script} → Ending script → List TableDump → Outcome
outcome_with e tables = record { events = e.events; order = e.order; tables = tables }
