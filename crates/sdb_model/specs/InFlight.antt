-- What holds at every moment of the requests in flight, those of calls that were delayed and haven't landed, and of what recorded
-- transactions asked.
use Rattle.std.specs.Prelude.{◌≡◌, ◌⊎◌, ℕ, ℤ, ◌<◌, ◌≤◌, ◌^◌, false, true, List, ◌∷◌, ◌++◌, length, take, Option, Some, None, Ok, IsSomeAnd, Contains}
use Rattle.sdb_model.specs.Types.{Decided, Decision, Key, Place, Record, Reply, Request, State, Table, TxId}
use Rattle.sdb_types.specs.declared.record.Condition.TheVariants as condition
use Rattle.sdb_types.specs.declared.record.Request.TheVariants as ask
use Rattle.sdb_types.specs.declared.record.Reply.TheVariants as reply
use Rattle.sdb_types.specs.declared.record.State.TheVariants as state
use Rattle.sdb_record.specs.declared.coordinator.Decision.TheVariants as decision
use Rattle.sdb_record.specs.Coordinator.{coordinator_key_of, decision_in}
use Rattle.sdb_record.specs.Meta.{is_committed, is_in}
use Rattle.sdb_record.specs.Moved.{is_unchanged}
use Rattle.sdb_record.specs.Parts.{before_record}
use Rattle.sdb_record.specs.Rolls.{forward_record}
use Rattle.sdb_model.specs.declared.answer.Answer.{Answer}
use Rattle.sdb_model.specs.declared.event.Event.{Event}
use Rattle.sdb_model.specs.declared.event.Event.TheVariants as event
use Rattle.sdb_model.specs.declared.event.How.TheVariants.{Seen}
use Rattle.sdb_model.specs.Events.{Contact, StoreContents, contact_of, moment}
use Rattle.sdb_model.specs.Explained.{IsAborted, IsPrepareOf, IsTableKey, Observes}
use Rattle.sdb_model.specs.Follows.{has_stopped, in_flight}
use Rattle.sdb_model.specs.ReadSet.{read_set_of, ReadItem, version_read}
use Rattle.sdb_model.specs.Requests.{puts_in, records_put}
use Rattle.sdb_model.specs.Rows.{Name}
use Rattle.sdb_model.specs.Transactions.{Executed, Recorded, begun, client_of, commit_of, ending, prepares}

-- a request is in flight after so many events
abbrev pub IsInFlightAt : List Event → ℕ → Request → Type 0
IsInFlightAt events n q = (k : ℕ) × (in_flight k (take n events) ≡ Some q)

-- a prepare of a transaction that puts this record was asked for by one of these events
abbrev pub WasAsked : TxId → Record → List Event → Type 0
WasAsked id r events = (e : Event) × Contains events e × IsPrepareOf id r e

---- what recorded transactions asked

-- Each prepare of a transaction among these events was seen and applied.
abbrev pub AllApplied : TxId → List Event → Type 0
AllApplied id events = (e : Event) (c : Contact) → Contains events e → contact_of e ≡ Some c → prepares id c.request ≡ true → (c.how ≡ Seen) × (c.reply ≡ reply.Applied)

-- Of a transaction that is recorded then each prepare was seen and applied, and none is in flight.
pub record IsWholeAt (events : List Event) (n : ℕ) (id : TxId) : Type 0 where
  pub applied : AllApplied id (take n events)
  pub landed : (q : Request) → IsInFlightAt events n q → prepares id q ≡ false

abbrev pub RecordedAreWhole : List Place → List Event → List StoreContents → List (List StoreContents) → ℕ → Type 0
RecordedAreWhole places events opening moments n = (id : TxId) → id.0 < 2 ^ 128 → Recorded places (moment opening moments n) id → IsWholeAt events n id

---- a COMMITTED row in flight

-- a request puts a transaction's row with this decision
pub record PutsRow (id : TxId) (decision : Decision) (q : Request) : Type 0 where
  pub row : Record
  pub decided : Decided
  pub puts : Contains (records_put q) row
  pub key : row.key ≡ coordinator_key_of id
  pub well_formed : decision_in row ≡ Ok decided
  pub same : decided.decision ≡ decision

-- After its COMMIT was accepted a call of a transaction's client, among the first n events, showed this version at a key.
pub record IsCheckedAt (events : List Event) (n : ℕ) (id : TxId) (key : Key) (version : Option TxId) : Type 0 where
  pub front : List Event
  pub store : Name
  pub request : Request
  pub reply : Reply
  pub answer : Option Answer
  pub back : List Event
  pub found : Option Record
  pub at : take n events ≡ front ++ event.Call (client_of id) store request Seen reply answer ∷ back
  pub accepted : IsSomeAnd (commit_of events id) (λ (s : Executed). s.accepted ≤ length front)
  pub observed : Observes request reply key found
  pub unchanged : is_unchanged found version ≡ true

-- a transaction prepares a record at a key
abbrev pub IsAskedAt : List Event → TxId → Key → Type 0
IsAskedAt events id key = (r : Record) × WasAsked id r events × (r.key ≡ key)

-- Each version that a transaction read was checked, but for those at the keys that it prepares.
abbrev pub AllChecked : List Table → List Event → ℕ → TxId → Type 0
AllChecked catalog events n id = (item : ReadItem) (key : Key) (version : Option TxId) → Contains (read_set_of events id) item → version_read item key ≡ Some version → IsTableKey catalog key → IsAskedAt (take n events) id key ⊎ IsCheckedAt events n id key version

pub record IsCertainAt (catalog : List Table) (events : List Event) (n : ℕ) (id : TxId) : Type 0 where
  pub applied : AllApplied id (take n events)
  pub checked : AllChecked catalog events n id

---- a committed record in flight

-- A request rolls what a recorded transaction prepared forward to this record, alone or with others.
pub record IsRollForward (places : List Place) (events : List Event) (now : List StoreContents) (q : Request) (r : Record) : Type 0 where
  pub id : TxId
  pub prepared : Record
  pub when : ℤ
  pub found : State
  pub was : WasAsked id prepared events
  pub forward : r ≡ forward_record prepared when
  pub unresolved : is_committed found ≡ false
  pub asked : Contains (puts_in q) (r, condition.Version id found)
  pub recorded : Recorded places now id

-- A request rolls what a transaction whose row is ABORTED prepared back to this record, which stood there before.
pub record IsRollBack (places : List Place) (events : List Event) (now : List StoreContents) (q : Request) (r : Record) : Type 0 where
  pub id : TxId
  pub prepared : Record
  pub found : State
  pub was : WasAsked id prepared events
  pub back : before_record prepared ≡ Some r
  pub unresolved : is_committed found ≡ false
  pub asked : q ≡ ask.PutIf r (condition.Version id found)
  pub aborted : IsAborted places now id

---- a removal in flight

-- a transaction is open after so many events, of a client that hasn't stopped
pub record IsOpenAt (events : List Event) (n : ℕ) (id : TxId) (began : ℕ) : Type 0 where
  pub begins : begun (take n events) id ≡ Some began
  pub unended : ending (take n events) id ≡ None
  pub goes_on : has_stopped (client_of id) (take n events) ≡ false

-- It is the removal of a tombstone: a transaction deleted the row, and was recorded before each transaction began that is open.
pub record IsOfTombstone (places : List Place) (events : List Event) (opening : List StoreContents) (moments : List (List StoreContents)) (n : ℕ) (key : Key) (id : TxId) : Type 0 where
  pub prepared : Record
  pub was : WasAsked id prepared (take n events)
  pub at : prepared.key ≡ key
  pub deleted : is_in state.Deleted prepared.columns ≡ true
  pub recorded : Recorded places (moment opening moments n) id
  pub before : (u : TxId) (began : ℕ) → IsOpenAt events n u began → Recorded places (moment opening moments began) id

---- the whole

-- What holds of a request that is in flight after so many events: a put of a COMMITTED row is of a transaction whose prepares and checks were
-- all made; a put of a committed record rolls what was prepared forward or back, by its transaction's row; a delete of what is unresolved is
-- of an aborted transaction, and one of what is committed of a tombstone.
pub record IsSoundInFlight (catalog : List Table) (places : List Place) (events : List Event) (opening : List StoreContents) (moments : List (List StoreContents)) (n : ℕ) (q : Request) : Type 0 where
  pub committed : (id : TxId) → id.0 < 2 ^ 128 → PutsRow id decision.Committed q → IsCertainAt catalog events n id
  pub rolled : (r : Record) → Contains (records_put q) r → IsTableKey catalog r.key → is_in state.Committed r.columns ≡ true
      → IsRollForward places (take n events) (moment opening moments n) q r ⊎ IsRollBack places (take n events) (moment opening moments n) q r
  pub undone : (key : Key) (id : TxId) (s : State) → q ≡ ask.DeleteIf key (condition.Version id s) → is_committed s ≡ false → IsAborted places (moment opening moments n) id
  pub removed : (key : Key) (id : TxId) → q ≡ ask.DeleteIf key (condition.Version id state.Committed) → IsOfTombstone places events opening moments n key id

-- It holds at each moment.
pub record FlightsExplained (catalog : List Table) (places : List Place) (events : List Event) (opening : List StoreContents) (moments : List (List StoreContents)) : Type 0 where
  pub recorded : (n : ℕ) → n ≤ length moments → RecordedAreWhole places events opening moments n
  pub sound : (n : ℕ) (q : Request) → n ≤ length moments → IsInFlightAt events n q → IsSoundInFlight catalog places events opening moments n q
