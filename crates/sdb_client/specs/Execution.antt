-- Executions: the states of a script's clients and of the requests in flight, and their steps by the protocol, whatever the stores
-- reply.
use Rattle.std.specs.Prelude.{◌≡◌, ◌≢◌, ◌⊎◌, ℕ, suc, ℤ, pos, ◌+◌, ◌-◌, ◌<◌, ◌^◌, true, false, List, [], ◌∷◌, ◌++◌, length, Option, Some, None, IfSome, IsSomeAnd, is_some, slice_get, slice_set}
use Rattle.sdb_client.specs.Types.{Answer, Event, How, Key, Reply, Request, Script, Table}
use Rattle.sdb_types.specs.declared.key.TableName.{TableName}
use Rattle.sdb_types.specs.declared.record.Reply.TheVariants as reply
use Rattle.sdb_types.specs.Contents.{CanAnswer}
use Rattle.sdb_record.specs.Meta.{is_moment}
use Rattle.sdb_schema.specs.declared.table.Column.{Column}
use Rattle.sdb_schema.specs.Added.{column_refused}
use Rattle.sdb_schema.specs.Catalog.{is_catalog}
use Rattle.sdb_model.specs.declared.event.Altered.{Altered}
use Rattle.sdb_model.specs.declared.event.Altered.TheVariants as altered
use Rattle.sdb_model.specs.declared.event.Event.TheVariants as event
use Rattle.sdb_model.specs.declared.event.How.TheVariants.{Delayed}
use Rattle.sdb_model.specs.Catalogs.{catalog_after, takes_column}
use Rattle.sdb_model.specs.Exec.{find_table}
use Rattle.sdb_model.specs.Follows.{IsHowOfStep, texts_of}
use Rattle.sdb_client.specs.Client.{ClientAt, IsIdle, client_pending, next_id, nothing_done}
use Rattle.sdb_client.specs.Step.{Receives, Step, Takes}
use Rattle.sdb_client.specs.declared.gate.Gate.{Gate}
use Rattle.sdb_client.specs.declared.slot.ClientSlot.{ClientSlot}
use Rattle.sdb_model.specs.Tables.{is_data}
use Rattle.sdb_model.specs.Calls.{is_stored_reply}

-- A script that can be run: a catalog without a table of the coordinator, clients that have numbers, and statements that are no
-- longer than a text may be.
pub record IsPlayable (script : Script) : Type 0 where
  pub catalog : is_catalog script.catalog ≡ true
  pub apart : (k : Key) → is_some (find_table script.catalog k.table) ≡ true → is_data k ≡ true
  pub few : length script.clients < 2 ^ 32 - 1
  pub short : (c i : ℕ) (text : List ℕ) → slice_get (texts_of script.clients c) i ≡ Some text → length text < 2 ^ 32

---- states

-- A state: each client, with how many of its statements it has accepted and whether it has stopped, client 1 first; the requests of
-- the calls that were delayed, in order, each none once it has landed; and the clock.
pub record State : Type 0 where
  pub client_slots : List ClientSlot
  pub flights : List (Option Request)
  pub clock : ℤ

-- a client that has done nothing
abbrev pub initial_client : ℕ → ClientSlot
initial_client i = record { client = nothing_done (suc i); accepted = 0; stopped = false }

-- so many clients that have done nothing
pub record AreFresh (count : ℕ) (client_slots : List ClientSlot) : Type 0 where
  pub size : length client_slots ≡ count
  pub each : (i : ℕ) (s : ClientSlot) → slice_get client_slots i ≡ Some s → s ≡ initial_client i

-- An initial state: no client has done anything, nothing is in flight, and the clock shows 0.
pub record IsInitial (script : Script) (s : State) : Type 0 where
  pub fresh : AreFresh (length script.clients) s.client_slots
  pub none_late : s.flights ≡ []
  pub clock : s.clock ≡ pos 0

-- a client after a statement or a reply
abbrev pub client_after : ClientSlot → ℕ → ClientAt → ClientSlot
client_after s more client = record { client = client; accepted = s.accepted + more; stopped = s.stopped }

-- the client has stopped
abbrev pub client_stopped : ClientSlot → ClientSlot
client_stopped s = record { client = s.client; accepted = s.accepted; stopped = true }

-- with another client at a place
abbrev pub with_client_at : State → ℕ → ClientSlot → State
with_client_at s i client_slot = record { client_slots = slice_set s.client_slots i client_slot; flights = s.flights; clock = s.clock }

-- the requests in flight after a call: a delayed one goes into flight
abbrev pub flights_after : List (Option Request) → How → Request → List (Option Request)
flights_after flights Delayed q = flights ++ Some q ∷ []
flights_after flights how q = flights

-- with other requests in flight
abbrev pub with_flights : State → List (Option Request) → State
with_flights s flights = record { client_slots = s.client_slots; flights = flights; clock = s.clock }

---- what the other clients do

-- it has stopped, or runs no VACUUM
abbrev pub IsUnswept : List ClientSlot → ℕ → Type 0
IsUnswept client_slots i = IfSome (slice_get client_slots i) (λ s. s.stopped ≡ false → s.client.vacuum ≡ None)

-- it has stopped, or has no transaction open
abbrev pub IsUnopened : List ClientSlot → ℕ → Type 0
IsUnopened client_slots i = IfSome (slice_get client_slots i) (λ s. s.stopped ≡ false → s.client.txn ≡ None)

-- it hasn't stopped, and runs VACUUM
abbrev pub IsInVacuumAt : List ClientSlot → ℕ → Type 0
IsInVacuumAt client_slots i = IsSomeAnd (slice_get client_slots i) (λ s. (s.stopped ≡ false) × (is_some s.client.vacuum ≡ true))

-- it hasn't stopped, and has a transaction open
abbrev pub IsOpenAt : List ClientSlot → ℕ → Type 0
IsOpenAt client_slots i = IsSomeAnd (slice_get client_slots i) (λ s. (s.stopped ≡ false) × (is_some s.client.txn ≡ true))

-- no client that hasn't stopped has a transaction open or runs VACUUM
abbrev pub AreQuiet : List ClientSlot → Type 0
AreQuiet client_slots = (j : ℕ) → IsUnopened client_slots j × IsUnswept client_slots j

-- some client that hasn't has, or does
abbrev pub SomeActive : List ClientSlot → Type 0
SomeActive client_slots = (j : ℕ) × (IsOpenAt client_slots j ⊎ IsInVacuumAt client_slots j)

-- it holds of a client at some other place
abbrev pub SomeAt : (List ClientSlot → ℕ → Type 0) → List ClientSlot → ℕ → Type 0
SomeAt P client_slots i = (j : ℕ) × (j ≢ i) × P client_slots j

-- A gate says whether a client at another place that hasn't stopped runs VACUUM, and whether one has a transaction open.
pub record IsGateAt (gate : Gate) (client_slots : List ClientSlot) (i : ℕ) : Type 0 where
  pub vacuums : gate.vacuum_runs ≡ false → (j : ℕ) → j ≢ i → IsUnswept client_slots j
  pub opens : gate.open_elsewhere ≡ false → (j : ℕ) → j ≢ i → IsUnopened client_slots j
  pub vacuumed : gate.vacuum_runs ≡ true → SomeAt IsInVacuumAt client_slots i
  pub opened : gate.open_elsewhere ≡ true → SomeAt IsOpenAt client_slots i

---- steps

-- A client that hasn't stopped and waits for a statement takes the next one of the script, under the catalog as it is after the events so
-- far.
pub record TakeStep (script : Script) (past : List Event) (s : State) (c : ℕ) (text : List ℕ) (answer : Option Answer) (t : State) : Type 0 where
  pub place : ℕ
  pub client_slot : ClientSlot
  pub gate : Gate
  pub client : ClientAt
  pub number : c ≡ suc place
  pub at : slice_get s.client_slots place ≡ Some client_slot
  pub goes_on : client_slot.stopped ≡ false
  pub idle : IsIdle client_slot.client
  pub next : slice_get (texts_of script.clients c) client_slot.accepted ≡ Some text
  pub gated : IsGateAt gate s.client_slots place
  pub small : client.begun < 2 ^ 64
  pub takes : Step client_slot.client (Takes (record { catalog = catalog_after script.catalog past; now = s.clock; gate = gate; fresh = next_id client_slot.client }) text) answer client
  pub left : t ≡ with_client_at s place (client_after client_slot 1 client)

-- A client that hasn't stopped makes the call that it has pending, and takes a reply that this can get. A call that is delayed goes
-- into flight, and its client takes a fault.
pub record CallStep (s : State) (c : ℕ) (q : Request) (how : How) (r : Reply) (answer : Option Answer) (t : State) : Type 0 where
  pub place : ℕ
  pub client_slot : ClientSlot
  pub client : ClientAt
  pub number : c ≡ suc place
  pub at : slice_get s.client_slots place ≡ Some client_slot
  pub goes_on : client_slot.stopped ≡ false
  pub pending : client_pending client_slot.client ≡ Some q
  pub can : CanAnswer q r
  pub stored : is_stored_reply r ≡ true
  pub late : how ≡ Delayed → r ≡ reply.Fault
  pub takes : Step client_slot.client (Receives q r s.clock) answer client
  pub left : t ≡ with_flights (with_client_at s place (client_after client_slot 0 client)) (flights_after s.flights how q)

-- A client's call that faulted, with this how, leads there.
abbrev pub FaultsTo : State → ℕ → Request → How → Option Answer → State → Type 0
FaultsTo s c q how answer t = CallStep s c q how reply.Fault answer (with_flights t (flights_after s.flights how q))

-- A client stops.
pub record StopStep (s : State) (c : ℕ) (t : State) : Type 0 where
  pub place : ℕ
  pub client_slot : ClientSlot
  pub number : c ≡ suc place
  pub at : slice_get s.client_slots place ≡ Some client_slot
  pub left : t ≡ with_client_at s place (client_stopped client_slot)

-- A request in flight lands, and is in flight no more. No client learns of it.
pub record LandStep (s : State) (number : ℕ) (q : Request) (how : How) (r : Reply) (t : State) : Type 0 where
  pub place : ℕ
  pub number_is : number ≡ suc place
  pub at : slice_get s.flights place ≡ Some (Some q)
  pub allowed : IsHowOfStep how r
  pub can : CanAnswer q r
  pub stored : is_stored_reply r ≡ true
  pub left : t ≡ with_flights s (slice_set s.flights place None)

-- What becomes of a column that is to be added to a table of a catalog: it is added while the clients are quiet, where the catalog takes it.
abbrev pub AlterStep : List Table → List ClientSlot → TableName → Column → Altered → Type 0
AlterStep catalog client_slots table c altered.Open = SomeActive client_slots
AlterStep catalog client_slots table c (altered.Refused k) = AreQuiet client_slots × (column_refused catalog table c ≡ Some k)
AlterStep catalog client_slots table c altered.Done = AreQuiet client_slots × (takes_column catalog table c ≡ true)

-- An event is a step from one state to another, after the events so far.
abbrev pub IsStepFrom : Script → List Event → State → Event → State → Type 0
IsStepFrom script past s (event.Take c text answer) t = TakeStep script past s c text answer t
IsStepFrom script past s (event.Call c store q how r answer) t = CallStep s c q how r answer t
IsStepFrom script past s (event.Stop c) t = StopStep s c t
IsStepFrom script past s (event.Clock moment) t = (is_moment moment ≡ true) × (t ≡ record { client_slots = s.client_slots; flights = s.flights; clock = moment })
IsStepFrom script past s (event.Idle c) t = t ≡ s
IsStepFrom script past s (event.Land number store q how r) t = LandStep s number q how r t
IsStepFrom script past s (event.Alter table column kind altered) t = AlterStep (catalog_after script.catalog past) s.client_slots table (record { name = column; kind = kind }) altered × (t ≡ s)

-- Events lead from one state to another, one step each, after those before them.
abbrev pub IsPath : Script → List Event → State → List Event → State → Type 0
IsPath script past s [] t = t ≡ s
IsPath script past s (e ∷ es) t = (u : State) × IsStepFrom script past s e u × IsPath script (past ++ e ∷ []) u es t

-- Events lead to a state from an initial one.
pub record IsReachedBy (script : Script) (events : List Event) (s : State) : Type 0 where
  pub first : State
  pub initial : IsInitial script first
  pub path : IsPath script [] first events s

-- Events are an execution of a script's clients: they lead from an initial state to another.
pub record IsExecution (script : Script) (events : List Event) : Type 0 where
  pub first : State
  pub last : State
  pub initial : IsInitial script first
  pub path : IsPath script [] first events last
