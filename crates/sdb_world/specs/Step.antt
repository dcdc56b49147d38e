-- The steps of a world, and what they do to the stores.
use Rattle.std.specs.Prelude.{◌≡◌, ℕ, zero, suc, ◌≤◌, ◌<◌, ◌^◌, true, List, [], ◌∷◌, ◌++◌, length, Option, Some, None, IfSome, slice_get, slice_set}
use Rattle.std.specs.Option.{option_and_then}
use Rattle.std.specs.List.{AllByRecursion}
use Rattle.sdb_world.specs.Types.{Act, Answer, ClientSlot, Event, Gate, How, Kind, Move, Reply, Request, Script, ScriptClient, Table, TableName}
use Rattle.sdb_types.specs.Contents.{CanAnswer}
use Rattle.sdb_record.specs.Meta.{is_moment}
use Rattle.sdb_model.specs.declared.event.Event.TheVariants as event
use Rattle.sdb_model.specs.declared.script.Act.TheVariants as act
use Rattle.sdb_model.specs.declared.script.Move.TheVariants as move
use Rattle.sdb_record.specs.Parts.{is_column_name}
use Rattle.sdb_schema.specs.declared.table.Column.{Column}
use Rattle.sdb_schema.specs.Added.{column_refused, with_column}
use Rattle.sdb_model.specs.declared.event.Altered.{Altered}
use Rattle.sdb_model.specs.declared.event.Altered.TheVariants as altered
use Rattle.sdb_model.specs.Catalogs.{catalog_after}
use Rattle.sdb_model.specs.Rows.{Name}
use Rattle.sdb_model.specs.Events.{IsTrace, StoreContents, store_of, table_asked}
use Rattle.sdb_model.specs.Follows.{AllIdle, AreOfMoves, AreStepsOf, IsActed, IsAmong, IsHowOfDelay, IsHowOfDiscard, IsHowOfLose, IsHowOfStep, IsOfMove, has_work, texts_of}
use Rattle.sdb_client.specs.Client.{ClientAt, IsBusy, IsIdle, ReplyPost, client_pending, next_id, TextStep}
use Rattle.sdb_stores.specs.Views.{Attached}
use Rattle.sdb_contents.specs.Board.{AreUsable, IsMade, contents_of_views}
use Rattle.sdb_world.specs.declared.delivery.Delivery.{Delivery}
use Rattle.sdb_world.specs.declared.delivery.Delivery.TheVariants as way
use Rattle.law_runs.specs.World.{WorldAt, state_of, with_client, with_event, with_late}
use Rattle.sdb_client.specs.Execution.{AlterStep, IsGateAt, IsPath, client_after, client_stopped, flights_after}
use Rattle.sdb_model.specs.Tables.{is_table_of_run}
use Rattle.sdb_model.specs.Calls.{is_stored_reply}

-- a client has that number
abbrev pub IsNumber : Script → ℕ → Type 0
IsNumber script c = (0 < c) × (c ≤ length script.clients)

-- An act that a world can do: its client is one of the script, its moment one of the clock, and its column has the name of one.
abbrev pub CanAct : Script → Act → Type 0
CanAct script (act.Step c) = IsNumber script c
CanAct script (act.Lose c) = IsNumber script c
CanAct script (act.Discard c) = IsNumber script c
CanAct script (act.Delay c) = IsNumber script c
CanAct script (act.Land number) = Unit {0}
CanAct script (act.Stop c) = IsNumber script c
CanAct script (act.Clock moment) = is_moment moment ≡ true
CanAct script (act.Alter table column kind) = is_column_name column ≡ true

-- which hows a call has, by the way in which it is made
abbrev pub IsDeliveryOf : Delivery → How → Reply → Type 0
IsDeliveryOf way.Step how r = IsHowOfStep how r
IsDeliveryOf way.Lose how r = IsHowOfLose how r
IsDeliveryOf way.Discard how r = IsHowOfDiscard how r
IsDeliveryOf way.Delay how r = IsHowOfDelay how r

---- a client at a place

-- it waits for a statement
abbrev pub IsIdleAt : WorldAt → ℕ → Type 0
IsIdleAt w i = IfSome (slice_get w.client_slots i) (λ s. IsIdle s.client)

-- it waits for a reply
abbrev pub IsBusyAt : WorldAt → ℕ → Type 0
IsBusyAt w i = IfSome (slice_get w.client_slots i) (λ s. IsBusy s.client)

-- a statement of it is left
abbrev pub HasLeft : WorldAt → ℕ → Type 0
HasLeft w i = IfSome (slice_get w.client_slots i) (λ s. s.accepted < length (texts_of w.script.clients (suc i)))

-- that call of it is pending
abbrev pub IsPendingAt : WorldAt → ℕ → Request → Type 0
IsPendingAt w i q = IfSome (slice_get w.client_slots i) (λ s. client_pending s.client ≡ Some q)

---- one step of one client

-- A client takes its next statement.
pub record HasStarted (w : WorldAt) (i : ℕ) (v : WorldAt) : Type 0 where
  pub client_slot : ClientSlot
  pub text : List ℕ
  pub gate : Gate
  pub answer : Option Answer
  pub client : ClientAt
  pub at : slice_get w.client_slots i ≡ Some client_slot
  pub next : slice_get (texts_of w.script.clients (suc i)) client_slot.accepted ≡ Some text
  pub takes : TextStep (record { catalog = catalog_after w.script.catalog w.events; now = w.clock; gate = gate; fresh = next_id client_slot.client }) text client_slot.client answer client
  pub gated : IsGateAt gate w.client_slots i
  pub begun : client.begun < 2 ^ 64
  pub left : v ≡ with_event (with_client w i (client_after client_slot 1 client)) (event.Take (suc i) text answer)

-- A client's pending call is made in some way, and the client has the reply.
pub record HasCalled (old new : Attached) (w : WorldAt) (i : ℕ) (way : Delivery) (v : WorldAt) : Type 0 where
  pub client_slot : ClientSlot
  pub store : Name
  pub request : Request
  pub how : How
  pub reply : Reply
  pub answer : Option Answer
  pub client : ClientAt
  pub at : slice_get w.client_slots i ≡ Some client_slot
  pub pending : client_pending client_slot.client ≡ Some request
  pub can : CanAnswer request reply
  pub allowed : IsDeliveryOf way how reply
  pub stored : is_stored_reply reply ≡ true
  pub answered : ReplyPost client_slot.client client_slot.client.vacuum reply w.clock answer client
  pub made : AreUsable w.script.catalog old → is_table_of_run w.script.catalog (table_asked request) ≡ true → (store ≡ store_of old.places (contents_of_views old.views) (table_asked request).ns) × IsMade request how reply old new
  pub left : v ≡ with_event (with_late (with_client w i (client_after client_slot 0 client)) (flights_after w.flights how request)) (event.Call (suc i) store request how reply answer)

---- one landing

-- the request in flight at a place
abbrev pub in_flight_at : ℕ → WorldAt → Option Request
in_flight_at zero w = None
in_flight_at (suc place) w = option_and_then (λ (o : Option Request). o) (slice_get w.flights place)

-- A request in flight of this number is in flight no more, if there is one.
abbrev pub LeavesFlight : ℕ → WorldAt → Option Request → WorldAt → Type 0
LeavesFlight number w None v = (in_flight_at number w ≡ None) × (v ≡ w)
LeavesFlight number w (Some q) v = (place : ℕ) × (number ≡ suc place) × (slice_get w.flights place ≡ Some (Some q)) × (v ≡ with_late w (slice_set w.flights place None))

-- A request in flight lands on the store of its table, and no client has the reply.
pub record HasLanded (old new : Attached) (w : WorldAt) (number : ℕ) (v : WorldAt) : Type 0 where
  pub place : ℕ
  pub store : Name
  pub request : Request
  pub how : How
  pub reply : Reply
  pub number_is : number ≡ suc place
  pub at : slice_get w.flights place ≡ Some (Some request)
  pub can : CanAnswer request reply
  pub allowed : IsHowOfStep how reply
  pub stored : is_stored_reply reply ≡ true
  pub made : AreUsable w.script.catalog old → is_table_of_run w.script.catalog (table_asked request) ≡ true → (store ≡ store_of old.places (contents_of_views old.views) (table_asked request).ns) × IsMade request how reply old new
  pub left : v ≡ with_event (with_late w (slice_set w.flights place None)) (event.Land number store request how reply)

---- stops

-- A client stops.
pub record HasStopped (w : WorldAt) (c : ℕ) (v : WorldAt) : Type 0 where
  pub place : ℕ
  pub client_slot : ClientSlot
  pub number : c ≡ suc place
  pub at : slice_get w.client_slots place ≡ Some client_slot
  pub left : v ≡ with_event (with_client w place (client_stopped client_slot)) (event.Stop c)

---- columns

-- A catalog takes a column of a table and has it then, or refuses it and stays.
abbrev pub AddsTo : List Table → TableName → Column → Altered → List Table → Type 0
AddsTo catalog table c altered.Done next = (column_refused catalog table c ≡ None) × (next ≡ with_column catalog table c)
AddsTo catalog table c (altered.Refused k) next = (column_refused catalog table c ≡ Some k) × (next ≡ catalog)
AddsTo catalog table c altered.Open next = ⊥

-- A column was to be added to a table.
pub record HasAltered (w : WorldAt) (table : TableName) (column : Name) (kind : Kind) (v : WorldAt) : Type 0 where
  pub altered : Altered
  pub adds : AlterStep (catalog_after w.script.catalog w.events) w.client_slots table (record { name = column; kind = kind }) altered
  pub left : v ≡ with_event w (event.Alter table column kind altered)

-- the act of a client's step, by the way in which its call is made
abbrev pub act_of : Delivery → ℕ → Act
act_of way.Step c = act.Step c
act_of way.Lose c = act.Lose c
act_of way.Discard c = act.Discard c
act_of way.Delay c = act.Delay c

---- events, and the stores

-- Events came to a world and to these stores: the script stays, and the events lead from where the clients were to where they are, whatever
-- the replies; and where the stores are fit for the run a trace of them agrees with the events.
pub record IsExecutionStep (old new : Attached) (w v : WorldAt) (es : List Event) : Type 0 where
  pub script : v.script ≡ w.script
  pub events : v.events ≡ w.events ++ es
  pub executed : IsPath w.script w.events (state_of w) es (state_of v)
  pub traced : AreUsable w.script.catalog old → (moments : List (List StoreContents)) × IsTrace old.places es (contents_of_views old.views) moments (contents_of_views new.views)

-- Events came, and the property holds of them.
pub record HasCome (P : List Event → Type 0) (old new : Attached) (w v : WorldAt) : Type 0 where
  pub es : List Event
  pub so : P es
  pub gone : IsExecutionStep old new w v es

-- one event, which is what an act gives
pub record IsOne (script : Script) (a : Act) (past es : List Event) : Type 0 where
  pub event : Event
  pub lone : es ≡ event ∷ []
  pub acted : IsActed script a past event

-- so many steps of a client
pub record AreSteps (clients : List ScriptClient) (c times : ℕ) (past es : List Event) : Type 0 where
  pub count : length es ≡ times
  pub steps : AreStepsOf clients c past es

-- One act was done.
abbrev pub HasActed : Act → Attached → Attached → WorldAt → WorldAt → Type 0
HasActed a old new w v = HasCome (IsOne w.script a w.events) old new w v

-- So many steps of a client were made.
abbrev pub HasStepped : ℕ → ℕ → Attached → Attached → WorldAt → WorldAt → Type 0
HasStepped c times old new w v = HasCome (AreSteps w.script.clients c times w.events) old new w v

-- One move was made.
abbrev pub HasMadeMove : Move → Attached → Attached → WorldAt → WorldAt → Type 0
HasMadeMove made old new w v = HasCome (IsOfMove w.script made w.events) old new w v

-- All moves of its script were made.
abbrev pub HasFollowed : Attached → Attached → WorldAt → WorldAt → Type 0
HasFollowed old new w v = HasCome (AreOfMoves w.script w.script.moves w.events) old new w v

---- moves

-- A move that a world can make: its client is one of the script, and its moment one of the clock.
abbrev pub CanMove : Script → Move → Type 0
CanMove script (move.Act a) = CanAct script a
CanMove script (move.Repeat c times) = IsNumber script c
CanMove script move.Rest = Unit {0}

-- it can make all of its script
abbrev pub CanFollow : Script → Type 0
CanFollow script = AllByRecursion (CanMove script) script.moves

-- the first client with work, from one number up to another
pub record IsFirst (w : WorldAt) (low high c : ℕ) : Type 0 where
  pub among : IsAmong low high c
  pub works : has_work w.script.clients c w.events ≡ true
  pub before : AllIdle w.script.clients w.events low c
