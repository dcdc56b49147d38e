-- The invariant between the events so far and the clients: what all know, the story of each, and what the statements of each
-- transaction come to.
use Rattle.std.specs.Prelude.{◌≡◌, ◌≢◌, ◌⊎◌, ℕ, Bool, true, false, List, length, Option, Some, None, Contains}
use Rattle.law_clients.specs.Types.{Answer, Event, Request, Statement, Table}
use Rattle.sdb_types.specs.declared.record.Reply.TheVariants as reply
use Rattle.sdb_model.specs.declared.answer.Answer.TheVariants as answer
use Rattle.sdb_model.specs.declared.event.Altered.TheVariants as altered
use Rattle.sdb_model.specs.declared.event.Event.TheVariants as event
use Rattle.sdb_model.specs.declared.event.How.TheVariants.{Delayed}
use Rattle.sdb_model.specs.Exec.{Tables}
use Rattle.sdb_model.specs.Rows.{Name}
use Rattle.sdb_model.specs.Sql.{Reads, reads_begin, reads_commit, reads_rollback}
use Rattle.sdb_model.specs.Transactions.{Executed, is_conflict, is_done}
use Rattle.law_protocol.specs.Explained.{events_of, newest_first}
use Rattle.law_protocol.specs.Faithful.{AgreesOnOpen}
use Rattle.law_protocol.specs.Lawful.{Labelled, id, protocol_state}
use Rattle.law_protocol.specs.Plan.{Plan}
use Rattle.law_clients.specs.Reads.{SeenOk, work_of}
use Rattle.law_clients.specs.Catalogs.{AreAtRest, catalog_at_begin}
use Rattle.law_clients.specs.Owner.{plan_of}
use Rattle.law_clients.specs.System.{ClientAt, Resting, Open, Reading, Committing, RunsVacuum, Stopped, SystemAt, SystemOk, has_open}
use Rattle.law_clients.specs.Body.{BodyOk}
use Rattle.law_clients.specs.BodyTexts.{BodyExecuted}
use Rattle.law_clients.specs.Filed.{number}
use Rattle.law_clients.specs.Left.{Execution}
use Rattle.law_clients.specs.Story.{Closed, Finished, Opened, Rest, txn_ended_at}
use Rattle.law_clients.specs.History.{AllStories, IsOpened, ClientHistory}
use Rattle.law_clients.specs.ReadSets.{ReadSetsOfClient}

---- one transaction

-- The statements inside of a transaction are what it ran, and come to that over any tables that agree with what was read.
pub record InsideOk (catalog : List Table) (fit : Tables → Bool) (past : List Labelled) (inside : List Executed) (r : Execution) : Type 0 where
  pub seen : SeenOk past r.seen
  pub body : BodyOk catalog fit r.body r.answers r.seen
  pub executed : BodyExecuted inside r

-- what it had read and written is its plan
abbrev pub IsPlanned : (ℕ → Plan) → ℕ → Execution → Type 0
IsPlanned plan t r = plan t ≡ plan_of (work_of (id t) r.now r.seen)

-- what holds of a transaction whose statements are these: it ran under the tables with which it began
pub record RanOk (catalog : List Table) (fit : List Table → Tables → Bool) (plan : ℕ → Plan) (past : List Labelled) (t : ℕ) (body : List Executed) (r : Execution) : Type 0 where
  pub inside : InsideOk (catalog_at_begin catalog past t) (fit (catalog_at_begin catalog past t)) past body r
  pub planned : (protocol_state past).accepted t ≡ true → IsPlanned plan t r

---- one client

-- each transaction of a client that ended
abbrev pub EndedOk : List Table → (List Table → Tables → Bool) → (ℕ → Plan) → List Labelled → ℕ → List Finished → (ℕ → Execution) → Type 0
EndedOk catalog fit plan past c whole ran = (k : ℕ) (f : Finished) → txn_ended_at whole k ≡ Some f → RanOk catalog fit plan past (number c k) f.body (ran k)

-- the one that is open
abbrev pub OpenedOk : List Table → (List Table → Tables → Bool) → (ℕ → Plan) → List Labelled → ℕ → Rest → Execution → Type 0
OpenedOk catalog fit plan past t (Closed gap) r = Unit {0}
OpenedOk catalog fit plan past t (Opened gap b body) r = RanOk catalog fit plan past t body r

-- none is open
abbrev pub IsClosed : Rest → Type 0
IsClosed (Closed gap) = Unit {0}
IsClosed (Opened gap b body) = ⊥

-- a statement of a transaction that neither begins nor ends one
pub record IsInner (text : List ℕ) : Type 0 where
  pub begin : reads_begin text ≡ false
  pub commit : reads_commit text ≡ false
  pub rollback : reads_rollback text ≡ false

-- the statement that waits is the one that the client runs
abbrev pub IsRunning : Option Statement → Option Executed → Type 0
IsRunning (Some st) (Some w) = Reads w.text st × IsInner w.text
IsRunning st w = ⊥

-- a COMMIT waits
abbrev pub IsCommitting : Option Executed → Type 0
IsCommitting None = ⊥
IsCommitting (Some w) = reads_commit w.text ≡ true

-- a statement waits
abbrev pub IsWaiting : Option Executed → Type 0
IsWaiting None = ⊥
IsWaiting (Some w) = Unit {0}

-- Where a client is, what it runs is its open transaction.
abbrev pub IsOpenOf : Option Statement → ClientHistory → Execution → ClientAt → Type 0
IsOpenOf doing x r Resting = IsClosed x.rest × (x.waiting ≡ None)
IsOpenOf doing x r (Open i seen) = IsOpened x.rest × (x.waiting ≡ None) × (r.seen ≡ seen)
IsOpenOf doing x r (Reading i seen a s) = IsOpened x.rest × IsRunning doing x.waiting × (r.seen ≡ seen)
IsOpenOf doing x r (Committing p s) = IsOpened x.rest × IsCommitting x.waiting
IsOpenOf doing x r (RunsVacuum v) = IsClosed x.rest × IsWaiting x.waiting
IsOpenOf doing x r Stopped = Unit {0}

-- What holds of a client: of each of its transactions, with what each ran, the first at 0, and where it is.
pub record ClientInvariant (catalog : List Table) (fit : List Table → Tables → Bool) (plan : ℕ → Plan) (past : List Labelled) (c : ℕ) (doing : Option Statement) (agrees : ClientAt) (x : ClientHistory) (ran : ℕ → Execution) : Type 0 where
  pub ended : EndedOk catalog fit plan past c x.whole ran
  pub opened : OpenedOk catalog fit plan past (number c (length x.whole)) x.rest (ran (length x.whole))
  pub next_state : IsOpenOf doing x (ran (length x.whole)) agrees

---- all clients

-- The invariant between the events so far, with actions that obey the rules and agree with the texts, the states of the clients, the
-- statements that they run, and what these read; of the columns that were added, each while no transaction was open.
pub record RunInvariant (catalog : List Table) (fit : List Table → Tables → Bool) (events : List Event) (sys : SystemAt) (doing : ℕ → Option Statement) : Type 0 where
  pub plan : ℕ → Plan
  pub labelled : List Labelled
  pub past : List Labelled
  pub answered : ℕ → ClientHistory
  pub ran : ℕ → ℕ → Execution
  pub same : events ≡ events_of labelled
  pub turned : past ≡ newest_first labelled
  pub system : SystemOk plan past sys
  pub stories : AllStories events past sys answered
  pub clients : (c : ℕ) → ClientInvariant catalog fit plan past c (doing c) (sys.clients c) (answered c) (ran c)
  pub as_read : (c : ℕ) → ReadSetsOfClient events c (sys.clients c) (answered c) (ran c)
  pub agrees : AgreesOnOpen labelled
  pub at_rest : AreAtRest past

---- events

-- the clock moves, or a client without work idles
abbrev pub IsSilent : Event → Type 0
IsSilent (event.Clock moment) = Unit {0}
IsSilent (event.Idle d) = Unit {0}
IsSilent e = ⊥

-- a call of this request was delayed, and its client was answered a fault
pub record HasDelayed (events : List Event) (q : Request) : Type 0 where
  pub client : ℕ
  pub store : Name
  pub answered : Option Answer
  pub call : Contains events (event.Call client store q Delayed reply.Fault answered)

-- the event lands a request of such a call
abbrev pub LandsDelayed : List Event → Event → Type 0
LandsDelayed events (event.Land number store q how r) = HasDelayed events q
LandsDelayed events e = ⊥

-- A column is to be added to a table: it is added while no client that hasn't stopped has a transaction open, or it isn't.
abbrev pub AddsAtRest : SystemAt → Event → Type 0
AddsAtRest sys (event.Alter table column kind altered.Done) = (c : ℕ) → has_open (sys.clients c) ≡ false
AddsAtRest sys (event.Alter table column kind altered.Open) = Unit {0}
AddsAtRest sys (event.Alter table column kind (altered.Refused k)) = Unit {0}
AddsAtRest sys e = ⊥

-- an answer that is neither Done, nor Conflict, nor Committed
pub record IsMild (a : Answer) : Type 0 where
  pub undone : is_done (Some a) ≡ false
  pub agrees : is_conflict (Some a) ≡ false
  pub other : a ≢ answer.Committed

-- A statement ends its transaction without a call: ROLLBACK that is answered Done, or a COMMIT that is out of memory.
abbrev pub LeavesAtOnce : List ℕ → Answer → Type 0
LeavesAtOnce text b = ((b ≡ answer.Done) × (reads_begin text ≡ false) × (reads_rollback text ≡ true)) ⊎ ((b ≡ answer.NoMemory) × (reads_commit text ≡ true))
