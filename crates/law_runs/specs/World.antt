-- The state of a run: the clients of a script, the requests in flight, and the events so far.
use Rattle.std.specs.Prelude.{◌≡◌, ℕ, zero, suc, ℤ, true, false, List, [], ◌∷◌, ◌++◌, length, Option, Some, None, codes, slice_get, slice_set}
use Rattle.std.specs.List.{filter_map, list_any}
use Rattle.sdb_record.specs.Meta.{is_moment}
use Rattle.law_runs.specs.Types.{ClientSlot, Event, Request, Script}
use Rattle.sdb_model.specs.Catalogs.{catalog_after}
use Rattle.sdb_model.specs.Follows.{delayed_at, delayed_by, has_stopped, is_pending, lands, takes_of}
use Rattle.sdb_model.specs.Rows.{Name}
use Rattle.law_protocol.specs.Spread.{AreAbout, relocated_events}
use Rattle.sdb_client.specs.Client.{IsBusy, IsIdle, nothing_done}
use Rattle.law_clients.specs.About.{IsOfTables}
use Rattle.law_clients.specs.Fitting.{tables_are_well_typed}
use Rattle.law_clients.specs.Invariant.{HasDelayed, RunInvariant}
use Rattle.law_clients.specs.States.{ClientState, IsFitted, doing_of, system_of}
use Rattle.law_answers.specs.Invariant.{CauseInvariant}
use Rattle.sdb_client.specs.Execution.{IsPlayable, State}

-- the script, its clients in their order, the requests of the calls that were delayed, each none once it landed, the events so far, and
-- the moment
pub record WorldAt : Type 0 where
  pub script : Script
  pub client_slots : List ClientSlot
  pub flights : List (Option Request)
  pub events : List Event
  pub clock : ℤ

-- where its clients, the requests in flight and the clock are
abbrev pub state_of : WorldAt → State
state_of w = record { client_slots = w.client_slots; flights = w.flights; clock = w.clock }

-- with an event more
abbrev pub with_event : WorldAt → Event → WorldAt
with_event w e = record { script = w.script; client_slots = w.client_slots; flights = w.flights; events = w.events ++ e ∷ []; clock = w.clock }

-- with another client at a place
abbrev pub with_client : WorldAt → ℕ → ClientSlot → WorldAt
with_client w i s = record { script = w.script; client_slots = slice_set w.client_slots i s; flights = w.flights; events = w.events; clock = w.clock }

-- at another moment
abbrev pub at_moment : WorldAt → ℤ → WorldAt
at_moment w moment = record { script = w.script; client_slots = w.client_slots; flights = w.flights; events = w.events; clock = moment }

-- with other requests in flight
abbrev pub with_late : WorldAt → List (Option Request) → WorldAt
with_late w flights = record { script = w.script; client_slots = w.client_slots; flights = flights; events = w.events; clock = w.clock }

---- the clients by their numbers, from 1

abbrev pub state_in : Option ClientSlot → ℕ → ClientState
state_in None c = record { client = nothing_done c; stopped = false }
state_in (Some s) c = record { client = s.client; stopped = s.stopped }

abbrev pub states_of : List ClientSlot → ℕ → ClientState
states_of client_slots zero = state_in None 0
states_of client_slots (suc i) = state_in (slice_get client_slots i) (suc i)

---- what holds between two steps

-- A client is where the events leave it: it has accepted that many statements, has stopped, and waits for a reply where its last event
-- has no answer. Until it stops, what it reads is of a statement that the catalog takes as it is after the events.
pub record IsClientState (script : Script) (events : List Event) (i : ℕ) (s : ClientSlot) : Type 0 where
  pub number : s.client.number ≡ suc i
  pub fitted : s.stopped ≡ false → IsFitted (catalog_after script.catalog events) s.client
  pub about : IsOfTables script.catalog s.client
  pub accepted : s.accepted ≡ takes_of (suc i) events
  pub stopped : s.stopped ≡ has_stopped (suc i) events
  pub busy : is_pending (suc i) events ≡ true → IsBusy s.client
  pub idle : is_pending (suc i) events ≡ false → IsIdle s.client

-- The delayed call of this number was made with this request, and hasn't landed.
abbrev pub IsInFlight : List Event → ℕ → Request → Type 0
IsInFlight events number q = (delayed_at number events ≡ Some q) × (list_any (lands number) events ≡ false) × HasDelayed events q

-- They are the requests of the calls that the events delayed, whose clients were answered a fault, in order: each is none once it has landed.
pub record AreInFlight (events : List Event) (flights : List (Option Request)) : Type 0 where
  pub count : length flights ≡ length (filter_map delayed_by events)
  pub late : (k : ℕ) (q : Request) → slice_get flights k ≡ Some (Some q) → IsInFlight events (suc k) q
  pub landed : (k : ℕ) → slice_get flights k ≡ Some None → list_any (lands (suc k)) events ≡ true
  pub none : (k : ℕ) → slice_get flights k ≡ None → list_any (lands (suc k)) events ≡ false

-- What holds of a world between two steps, by itself.
pub record IsSettled (w : WorldAt) : Type 0 where
  pub playable : IsPlayable w.script
  pub clients : length w.client_slots ≡ length w.script.clients
  pub each : (i : ℕ) (s : ClientSlot) → slice_get w.client_slots i ≡ Some s → IsClientState w.script w.events i s
  pub late : AreInFlight w.events w.flights
  pub moment : is_moment w.clock ≡ true
  pub about : AreAbout w.script.catalog w.events

---- what ties the events to the clients

-- the name of the one store on which all tables may be thought
abbrev pub one_name : Name
one_name = codes "stores"

-- the events with all calls on that store
abbrev pub on_one : List Event → List Event
on_one events = relocated_events (λ ns. one_name) events

-- The rules of the protocol hold, and the knowledge, the history and the execution of each client are those of the events, wherever its tables are kept.
abbrev pub IsLinked : WorldAt → Type 0
IsLinked w = RunInvariant w.script.catalog tables_are_well_typed (on_one w.events) (system_of (states_of w.client_slots)) (doing_of (states_of w.client_slots))

-- Each answer so far has its cause among the events, and what each client knows agrees with them, whatever the stores are.
abbrev pub HaveCauses : WorldAt → Type 0
HaveCauses w = CauseInvariant w.script.catalog w.events w.clock (states_of w.client_slots)

-- What holds of a world between two steps.
pub record IsWorld (w : WorldAt) : Type 0 where
  pub playable : IsPlayable w.script
  pub clients : length w.client_slots ≡ length w.script.clients
  pub each : (i : ℕ) (s : ClientSlot) → slice_get w.client_slots i ≡ Some s → IsClientState w.script w.events i s
  pub late : AreInFlight w.events w.flights
  pub moment : is_moment w.clock ≡ true
  pub about : AreAbout w.script.catalog w.events
  pub linked : IsLinked w
  pub caused : HaveCauses w
