-- Lawful runs, and what the laws ask of them.
use Rattle.std.specs.Prelude.{◌≡◌, ◌<◌, ◌≤◌, ◌^◌, ◌++◌, ◌∷◌, All, List, None, Some, length, take, true, ℕ}
use Rattle.sdb_record.specs.Coordinator.{coordinator_table}
use Rattle.sdb_record.specs.declared.coordinator.Decision.TheVariants.{Committed}
use Rattle.law_protocol.specs.Types.{Event, Key, Place, Point, Request, Table}
use Rattle.sdb_model.specs.Events.{IsTrace, StoreContents, moment}
use Rattle.sdb_model.specs.Exec.{find_table}
use Rattle.sdb_model.specs.Transactions.{IsOrder}
use Rattle.law_protocol.specs.Explained.{IsRunOf, IsAnsweredCommitted, events_of, newest_first}
use Rattle.law_protocol.specs.Faithful.{AgreesOnOpen, AreReadSets, IsFaithful}
use Rattle.law_protocol.specs.History.{Action, Begins, History, Prepares, ProtocolState, Ack, has_key}
use Rattle.law_protocol.specs.Lawful.{Labelled, WasDelayed, protocol_state}
use Rattle.law_protocol.specs.Plan.{Plan}
use Rattle.law_protocol.specs.Trace.{closing, has_effect, history}

---- newest first

-- A lawful run: plans, places, what the stores held before it, its events and what the stores held after each, newest first.
pub record LawfulRun : Type 0 where
  pub plan : ℕ → Plan
  pub places : List Place
  pub opening : List StoreContents
  pub past : List Labelled
  pub moments : List (List StoreContents)
  pub run : IsRunOf plan places opening past moments

-- what its events did
abbrev pub history_of : LawfulRun → History
history_of r = history r.plan r.places r.opening r.past r.moments

-- what the stores hold after its events
abbrev pub contents_of_run : LawfulRun → List StoreContents
contents_of_run r = closing r.opening r.moments

---- in order

-- A lawful run whose events, and what the stores held after each, are in their order.
pub record RunInOrder : Type 0 where
  pub plan : ℕ → Plan
  pub places : List Place
  pub opening : List StoreContents
  pub labelled : List Labelled
  pub moments : List (List StoreContents)
  pub run : IsRunOf plan places opening (newest_first labelled) (newest_first moments)

-- the same, newest first
abbrev pub turned : RunInOrder → LawfulRun
turned r = record { plan = r.plan; places = r.places; opening = r.opening; past = newest_first r.labelled; moments = newest_first r.moments; run = r.run }

-- its events, without the parts that they play
abbrev pub events_in : RunInOrder → List Event
events_in r = events_of r.labelled

-- what its events say
abbrev pub protocol_state_in : RunInOrder → ProtocolState
protocol_state_in r = protocol_state (newest_first r.labelled)

-- what its events did
abbrev pub history_in : RunInOrder → History
history_in r = history_of (turned r)

-- what the stores hold after its events
abbrev pub final_contents : RunInOrder → List StoreContents
final_contents r = contents_of_run (turned r)

-- a run has a moment before its events and one after each
abbrev pub IsMomentOf : RunInOrder → ℕ → Type 0
IsMomentOf r n = n ≤ length r.moments

-- what the stores hold at a moment of it
abbrev pub contents_at : RunInOrder → ℕ → List StoreContents
contents_at r n = moment r.opening r.moments n

-- its events up to a moment, newest first
abbrev pub past_at : RunInOrder → ℕ → List Labelled
past_at r n = newest_first (take n r.labelled)

-- what its events up to a moment did
abbrev pub history_at : RunInOrder → ℕ → History
history_at r n = history r.plan r.places r.opening (past_at r n) (newest_first (take n r.moments))

-- a transaction is recorded at a moment of it
abbrev pub IsRecordedAt : RunInOrder → ℕ → ℕ → Type 0
IsRecordedAt r n t = (history_at r n).row t ≡ Some Committed

-- A call of it was delayed by a moment: what it asks, and its action.
pub record DelayedCall (r : RunInOrder) (n : ℕ) : Type 0 where
  pub request : Request
  pub action : Action
  pub was : WasDelayed (past_at r n) request action

-- a call of this request was delayed by a moment
pub record WasDelayedBy (r : RunInOrder) (n : ℕ) (q : Request) : Type 0 where
  pub action : Action
  pub was : WasDelayed (past_at r n) q action

-- The parts that its events play are those that their texts say.
abbrev pub IsFaithfulRun : RunInOrder → Type 0
IsFaithfulRun r = IsFaithful (events_in r) (newest_first r.labelled)

-- Its actions and its texts agree about who is open.
abbrev pub AgreesOnOpenRun : RunInOrder → Type 0
AgreesOnOpenRun r = AgreesOnOpen r.labelled

-- The read sets of its plans are what the statements read.
abbrev pub HasReadSets : RunInOrder → Type 0
HasReadSets r = AreReadSets r.plan (events_in r) (newest_first r.labelled)

-- The COMMIT of a transaction was accepted, and its id has 128 bits.
pub record IsCommitStarted (r : RunInOrder) (t : ℕ) : Type 0 where
  pub fits : t < 2 ^ 128
  pub accepted : (protocol_state_in r).accepted t ≡ true

-- an order of the transactions that are recorded after its events
abbrev pub IsOrderOf : RunInOrder → List Point → Type 0
IsOrderOf r order = IsOrder r.places (events_in r) (final_contents r) order

-- the ids of its transactions have 128 bits
abbrev pub AreOfIds : List Point → Type 0
AreOfIds order = All (λ (p : Point). p.id.0 < 2 ^ 128) order

-- A trace of events with their actions, in their order.
pub record TraceInOrder : Type 0 where
  pub places : List Place
  pub opening : List StoreContents
  pub labelled : List Labelled
  pub moments : List (List StoreContents)
  pub end : List StoreContents
  pub trace : IsTrace places (events_of labelled) opening moments end

-- The tables of a catalog without the coordinator's.
pub record DataTables : Type 0 where
  pub catalog : List Table
  pub apart : find_table catalog coordinator_table ≡ None

---- parts of runs

-- A lawful run in two parts, the later events and what the stores held after each of them, and those before them.
pub record LongerRun : Type 0 where
  pub plan : ℕ → Plan
  pub places : List Place
  pub opening : List StoreContents
  pub past : List Labelled
  pub moments : List (List StoreContents)
  pub later : List Labelled
  pub more : List (List StoreContents)
  pub even : length later ≡ length more
  pub run : IsRunOf plan places opening (later ++ past) (more ++ moments)

-- An event of a lawful run, with what the stores held after it, and the run's events before and after it.
pub record EventInRun : Type 0 where
  pub plan : ℕ → Plan
  pub places : List Place
  pub opening : List StoreContents
  pub past : List Labelled
  pub moments : List (List StoreContents)
  pub event : Labelled
  pub after : List StoreContents
  pub later : List Labelled
  pub more : List (List StoreContents)
  pub even : length later ≡ length more
  pub run : IsRunOf plan places opening (later ++ event ∷ past) (more ++ after ∷ moments)

-- the whole run
abbrev pub run_with : EventInRun → LawfulRun
run_with e = record { plan = e.plan; places = e.places; opening = e.opening; past = e.later ++ e.event ∷ e.past; moments = e.more ++ e.after ∷ e.moments; run = e.run }

-- what the stores hold before the event
abbrev pub contents_before : EventInRun → List StoreContents
contents_before e = closing e.opening e.moments

-- The event is a transaction's prepare of a key, and took effect.
pub record PreparesKey (e : EventInRun) (t : ℕ) (k : Key) : Type 0 where
  pub ks : List Key
  pub among : has_key ks k ≡ true
  pub word : Ack
  pub prepares : e.event.action ≡ Prepares t ks word
  pub done : has_effect e.places e.event.event (closing e.opening e.moments) e.after ≡ true

-- The event begins a transaction that is recorded after the run. Another was answered Committed before it.
pub record BeginsAfterAnswered (e : EventInRun) (answered begun : ℕ) : Type 0 where
  pub client : ℕ
  pub is_known : IsAnsweredCommitted e.past answered
  pub begins : e.event.action ≡ Begins begun client
  pub recorded : (history_of (run_with e)).row begun ≡ Some Committed
