-- The rules of the protocol: which event may come after which. They quote the events so far, and the replies in them,
-- never what the stores hold. Lists have the newest event first.
use Rattle.std.specs.Prelude.{◌≡◌, ◌≢◌, ◌⊎◌, ℕ, ℤ, ◌^◌, ◌<◌, Bool, true, false, List, [], ◌∷◌, length, map, Option, Some, None, Ok, slice_get}
use Rattle.std.specs.List.{AllByRecursion}
use Rattle.std.specs.Option.{option_map}
use Rattle.std.specs.Result.{result_ok}
use Rattle.law_protocol.specs.Types.{Answer, Decision, Event, How, Key, Record, Reply, Request, State, TxId, Write}
use Rattle.sdb_types.specs.declared.record.State.TheVariants as state
use Rattle.sdb_types.specs.declared.record.Condition.TheVariants as condition
use Rattle.sdb_types.specs.declared.record.Request.TheVariants as ask
use Rattle.sdb_types.specs.declared.record.Reply.TheVariants as reply
use Rattle.sdb_types.specs.declared.record.Put.{Put}
use Rattle.sdb_types.specs.Contents.{in_span, record_among, sent}
use Rattle.sdb_types.specs.Order.{are_distinct}
use Rattle.sdb_record.specs.declared.coordinator.Decision.TheVariants as decision
use Rattle.sdb_record.specs.Coordinator.{coordinator_key_of, coordinator_row_of, decision_in}
use Rattle.sdb_record.specs.Meta.{id_in, is_in, is_moment, is_committed}
use Rattle.sdb_record.specs.Groups.{keys_of_writes}
use Rattle.sdb_record.specs.Moved.{is_unchanged}
use Rattle.sdb_record.specs.Parts.{before_record}
use Rattle.sdb_record.specs.Puts.{prepares_of}
use Rattle.sdb_record.specs.Rolls.{IsWrite, prepared_record, forward_record, is_tombstone, undo}
use Rattle.sdb_record.specs.Among.{version_among}
use Rattle.sdb_model.specs.declared.answer.Answer.TheVariants as answer
use Rattle.sdb_model.specs.declared.event.Event.TheVariants as event
use Rattle.sdb_model.specs.declared.event.How.TheVariants.{Delayed}
use Rattle.sdb_model.specs.Sql.{reads_begin, reads_commit}
use Rattle.sdb_model.specs.Rows.{Name}
use Rattle.law_protocol.specs.Plan.{Plan, write_at, written, version_read_at}
use Rattle.sdb_model.specs.ReadSet.{ReadItem, KeyRead, SpanRead}
use Rattle.law_protocol.specs.History.{Action, Other, Begins, Takes, Prepares, Checks, Decides, Aborts, Rolls, Removes, Ends, Stops, Ack, Yes, No, NoAck, OutOfMemory, ProtocolState, Preparing, Deciding, has_key, initial_state, state_after_event, state_after, IsPrepared}
use Rattle.sdb_model.specs.Tables.{is_data}

-- An event, its action, and the transaction that its answer ends, if one is ended.
pub record Labelled : Type 0 where
  pub event : Event
  pub action : Action
  pub ends : Option ℕ

abbrev pub ended : ProtocolState → Option ℕ → ProtocolState
ended h None = h
ended h (Some t) = state_after h (Ends t)

-- the state of the protocol after the events so far
abbrev pub protocol_state : List Labelled → ProtocolState
protocol_state [] = initial_state
protocol_state (p ∷ past) = ended (state_after_event (protocol_state past) p.action) p.ends

abbrev pub id : ℕ → TxId
id t = record { 0 = t }

---- what replies show

-- a reply shows a record
abbrev pub InReply : Reply → Record → Type 0
InReply (reply.Found (Some r)) x = x ≡ r
InReply (reply.Rows rs) x = record_among rs x.key ≡ Some x
InReply (reply.NotMet (Some r)) x = x ≡ r
InReply (reply.NotAll place (Some r)) x = x ≡ r
InReply _ x = ⊥

abbrev pub InEvent : Event → Record → Type 0
InEvent (event.Call client store q how r answer) x = InReply r x
InEvent _ x = ⊥

-- a record was observed in the reply to a call
abbrev pub IsObserved : List Labelled → Record → Type 0
IsObserved [] x = ⊥
IsObserved (p ∷ past) x = InEvent p.event x ⊎ IsObserved past x

-- a transaction's row was observed, with this decision and moment
pub record IsRowObserved (past : List Labelled) (t : ℕ) (d : Decision) (moment : ℤ) : Type 0 where
  pub row : Record
  pub observed : IsObserved past row
  pub key : row.key ≡ coordinator_key_of (id t)
  pub says : decision_in row ≡ Ok (record { decision = d; created_at = moment })

-- It is known that a transaction is committed, at this moment: its row was observed, or the put of it was seen and applied. Its own
-- client rolls forward to the moment at which it took the COMMIT, whatever moment the row has that was observed.
abbrev pub IsKnownCommitted : (ℕ → Plan) → List Labelled → ℕ → ℤ → Type 0
IsKnownCommitted plan past t moment =
    IsRowObserved past t decision.Committed moment
    ⊎ (((protocol_state past).won t ≡ true) × (moment ≡ (plan t).now))
    ⊎ (((protocol_state past).accepted t ≡ true) × ((m : ℤ) × IsRowObserved past t decision.Committed m) × (moment ≡ (plan t).now))

-- It is known that a transaction is aborted: its row was observed, or a put of that row was seen and applied; or a put of its row
-- was seen, applied or not met, while it has asked for no put of COMMITTED, or only for one that memory was wanting for.
abbrev pub IsKnownAborted : List Labelled → ℕ → Type 0
IsKnownAborted past t =
    ((moment : ℤ) × IsRowObserved past t decision.Aborted moment)
    ⊎ ((protocol_state past).dead t ≡ true)
    ⊎ (((protocol_state past).met t ≡ true) × ((protocol_state past).risked t ≡ false))

-- a record that a transaction prepared at a key was observed
pub record IsPreparedObserved (past : List Labelled) (t : ℕ) (k : Key) (r : Record) : Type 0 where
  pub observed : IsObserved past r
  pub key : r.key ≡ k
  pub held : is_in state.Committed r.columns ≡ false
  pub writer : id_in r.columns ≡ Some (id t)

-- what a transaction prepares at a key
abbrev pub prepared_at : (ℕ → Plan) → ℕ → Key → Option Record
prepared_at plan t k = option_map (λ w. prepared_record w (id t) (plan t).now) (write_at (plan t) k)

-- what a transaction prepared at a key: it was observed, or it is the transaction's own
abbrev pub IsPreparedThere : (ℕ → Plan) → List Labelled → ℕ → Key → Record → Type 0
IsPreparedThere plan past t k r = IsPreparedObserved past t k r ⊎ (((protocol_state past).asked t k ≡ true) × (prepared_at plan t k ≡ Some r))

-- A committed record of a key that a read comes to: it was observed, or is what a record that was observed is rolled forward to, by
-- a row that was observed, or what such a record is rolled back to.
pub data IsSettled (past : List Labelled) (k : Key) (b : Record) : Type 0 where
  Itself : (observed : IsObserved past b) (key : b.key ≡ k) (firm : is_in state.Committed b.columns ≡ true) → IsSettled past k b
  Forward : (t : ℕ) (r : Record) (moment : ℤ) (held : IsPreparedObserved past t k r) (row : IsRowObserved past t decision.Committed moment) (same : b ≡ forward_record r moment) → IsSettled past k b
  Back : (t : ℕ) (r : Record) (held : IsPreparedObserved past t k r) (same : before_record r ≡ Some b) → IsSettled past k b

---- calls

abbrev pub ack_of : Reply → Ack
ack_of reply.Applied = Yes
ack_of (reply.NotMet found) = No
ack_of reply.NoMemory = OutOfMemory
ack_of (reply.Found found) = NoAck
ack_of (reply.Rows rows) = NoAck
ack_of (reply.NotAll place there) = No
ack_of reply.Fault = NoAck

-- an event is a call with this request and reply
pub record IsCallOf (e : Event) (client : ℕ) (q : Request) (r : Reply) : Type 0 where
  pub store : Name
  pub how : How
  pub answer : Option Answer
  pub call : e ≡ event.Call client store q how r answer

-- A client makes a call of the COMMIT of its transaction: its COMMIT was accepted, and it hasn't ended, nor has the client
-- stopped.
pub record InCommit (h : ProtocolState) (client t : ℕ) : Type 0 where
  pub accepted : h.accepted t ≡ true
  pub is_open : h.is_open t ≡ true
  pub owner : h.owner t ≡ client
  pub goes_on : h.stopped client ≡ false

---- the rules

-- BEGIN
pub record MayBegin (past : List Labelled) (e : Event) (t c : ℕ) : Type 0 where
  -- it is a BEGIN that was answered
  pub text : List ℕ
  pub begin : reads_begin text ≡ true
  pub take : e ≡ event.Take c text (Some answer.Done)
  -- ids are never used again: two transactions of one id would be one version
  pub fresh : (protocol_state past).begun t ≡ 0
  -- an id has 128 bits
  pub fits : t < 2 ^ 128

-- the taking of a COMMIT
pub record MayTake (plan : ℕ → Plan) (past : List Labelled) (e : Event) (t : ℕ) : Type 0 where
  -- it is a COMMIT of the transaction's client
  pub client : ℕ
  pub text : List ℕ
  pub answered : Option Answer
  pub commit : reads_commit text ≡ true
  pub take : e ≡ event.Take client text answered
  pub owner : (protocol_state past).owner t ≡ client
  -- the transaction is open, and its client hasn't stopped
  pub is_open : (protocol_state past).is_open t ≡ true
  pub goes_on : (protocol_state past).stopped client ≡ false
  -- a transaction has one COMMIT
  pub fresh : (protocol_state past).accepted t ≡ false
  pub moment : is_moment (plan t).now ≡ true
  -- it writes tables of records alone, in the form that records have
  pub writes : (k : Key) (w : Write) → write_at (plan t) k ≡ Some w → IsWrite w × (is_data k ≡ true)
  -- each base is a committed record that was read: what is prepared over it can be rolled back to it
  pub bases : (k : Key) (w : Write) (b : Record) → write_at (plan t) k ≡ Some w → w.base ≡ Some b → IsSettled past k b
  -- each version read is that of a committed record that was read
  pub read_set : (i : ℕ) (k : Key) (u : ℕ) → version_read_at (plan t) i k ≡ Some (Some u) → (b : Record) × IsSettled past k b × (id_in b.columns ≡ Some (id u))
  pub tables : (i : ℕ) (k : Key) (version : Option ℕ) → version_read_at (plan t) i k ≡ Some version → is_data k ≡ true

-- A prepare of one or more keys, by one request.
pub record MayPrepare (plan : ℕ → Plan) (past : List Labelled) (e : Event) (t : ℕ) (ks : List Key) (word : Ack) : Type 0 where
  pub client : ℕ
  pub group : List Write
  pub r : Reply
  pub within : InCommit (protocol_state past) client t
  -- it puts what the transaction writes at keys that differ, where each base is still there
  pub keys : ks ≡ keys_of_writes group
  pub some : 0 < length ks
  pub once_each : are_distinct ks ≡ true
  pub each : AllByRecursion (λ (w : Write). write_at (plan t) w.key ≡ Some w) group
  pub call : IsCallOf e client (prepares_of (id t) (plan t).now group) r
  pub word_is : word ≡ ack_of r
  -- prepares come before checks: a check before a prepare does not show what the transaction rests on
  pub stage : (protocol_state past).stage t ≡ Preparing
  -- one prepare for each key: a second could put again what was rolled back
  pub once : (k : Key) → has_key ks k ≡ true → (protocol_state past).asked t k ≡ false

-- The reply to a check finds all as read: a key that the transaction doesn't write has the version read, in state 3, or no
-- record where none was read. Of a scan this holds of each key of its span.
abbrev pub IsUnchanged : Plan → ReadItem → Request → Reply → Type 0
IsUnchanged plan (KeyRead read) q r = (found : Option Record) × (q ≡ ask.Get read.key) × (r ≡ reply.Found found) × (is_unchanged found read.version ≡ true)
IsUnchanged plan (SpanRead scan) q r = (rows : List Record) × (q ≡ ask.Scan scan.span) × (r ≡ reply.Rows rows) × ((k : Key) → in_span scan.span k ≡ true → written plan k ≡ None → is_unchanged (record_among rows k) (version_among scan.found k) ≡ true)

-- a check
pub record MayCheck (plan : ℕ → Plan) (past : List Labelled) (e : Event) (t i : ℕ) : Type 0 where
  pub client : ℕ
  pub item : ReadItem
  pub q : Request
  pub r : Reply
  pub within : InCommit (protocol_state past) client t
  -- it reads again what was read, and finds all as it was
  pub at : slice_get (plan t).read_set i ≡ Some item
  pub call : IsCallOf e client q r
  pub unchanged : IsUnchanged (plan t) item q r
  -- after a check the transaction prepares nothing more: whoever prepares later comes after it
  pub stage : (protocol_state past).stage t ≢ Deciding

-- the put of COMMITTED
pub record MayDecide (plan : ℕ → Plan) (past : List Labelled) (e : Event) (t : ℕ) (word : Ack) : Type 0 where
  pub client : ℕ
  pub r : Reply
  pub within : InCommit (protocol_state past) client t
  pub call : IsCallOf e client (ask.PutIf (coordinator_row_of (id t) decision.Committed (plan t).now) condition.Absent) r
  pub word_is : word ≡ ack_of r
  -- every write was prepared, and its client was answered so
  pub prepared : IsPrepared plan (protocol_state past) t
  -- every read of the read set of a key that isn't written was checked
  pub checked : (i : ℕ) (k : Key) (version : Option ℕ) → version_read_at (plan t) i k ≡ Some version → written (plan t) k ≡ None → (protocol_state past).checked t i ≡ true
  -- and of a key that is, the base is what was read
  pub agrees : (i : ℕ) (k : Key) (version base : Option ℕ) → version_read_at (plan t) i k ≡ Some version → written (plan t) k ≡ Some base → version ≡ base

-- A put of a row ABORTED. Anybody may put it at any time: nothing here asks whether the transaction has expired.
pub record MayAbort (past : List Labelled) (e : Event) (t : ℕ) (moment : ℤ) (word : Ack) : Type 0 where
  pub client : ℕ
  pub r : Reply
  pub call : IsCallOf e client (ask.PutIf (coordinator_row_of (id t) decision.Aborted moment) condition.Absent) r
  pub word_is : word ≡ ack_of r
  pub fits : t < 2 ^ 128
  pub moment_is : is_moment moment ≡ true

-- What may be rolled, by anybody: the record that a transaction prepared at a key, in an unresolved state.
pub record MayRoll (plan : ℕ → Plan) (past : List Labelled) (t : ℕ) (k : Key) (r : Record) (s : State) : Type 0 where
  pub is_open : is_committed s ≡ false
  pub outside : is_data k ≡ true
  pub prepared : IsPreparedThere plan past t k r

-- a record in a state that is rolled forward, where it is still there
abbrev pub roll_forward_of : TxId → ℤ → Record × State → Put
roll_forward_of t moment x = record { rec = forward_record x.0 moment; condition = condition.Version t x.1 }

-- A roll forward of one or more records, by one request.
pub record MayRollForward (plan : ℕ → Plan) (past : List Labelled) (e : Event) (t : ℕ) (ks : List Key) : Type 0 where
  pub client : ℕ
  pub rolled : List (Record × State)
  pub r : Reply
  -- it puts what the transaction leaves at keys that differ, where each record is still there
  pub keys : ks ≡ map (λ (x : Record × State). x.0.key) rolled
  pub some : 0 < length ks
  pub once_each : are_distinct ks ≡ true
  pub each : AllByRecursion (λ (x : Record × State). MayRoll plan past t x.0.key x.0 x.1) rolled
  pub moment : ℤ
  -- only what is known to be committed is rolled forward
  pub known : IsKnownCommitted plan past t moment
  pub call : IsCallOf e client (sent (map (roll_forward_of (id t) moment) rolled)) r

-- A roll back of one record.
pub record MayRollBack (plan : ℕ → Plan) (past : List Labelled) (e : Event) (t : ℕ) (k : Key) : Type 0 where
  pub client : ℕ
  pub rolled : Record
  pub s : State
  pub r : Reply
  pub roll : MayRoll plan past t k rolled s
  -- only what is known to be aborted is rolled back
  pub known : IsKnownAborted past t
  pub call : IsCallOf e client (undo (condition.Version (id t) s) k (before_record rolled)) r

-- of a list of one key
abbrev pub OfOneKey : List Key → (Key → Type 0) → Type 0
OfOneKey [] P = ⊥
OfOneKey (k ∷ []) P = P k
OfOneKey (k ∷ l ∷ ks) P = ⊥

-- One request rolls any number of records forward, and one back.
abbrev pub MayRollBy : (ℕ → Plan) → List Labelled → Event → ℕ → List Key → Decision → Type 0
MayRollBy plan past e t ks decision.Committed = MayRollForward plan past e t ks
MayRollBy plan past e t ks decision.Aborted = OfOneKey ks (MayRollBack plan past e t)

-- VACUUM's removal of a tombstone
pub record MayRemove (past : List Labelled) (e : Event) (k : Key) (t : ℕ) : Type 0 where
  pub client : ℕ
  pub r : Reply
  pub tombstone : Record
  pub call : IsCallOf e client (ask.DeleteIf k (condition.Version (id t) state.Committed)) r
  pub outside : is_data k ≡ true
  -- a tombstone of that transaction was read there
  pub settled : IsSettled past k tombstone
  pub gone : is_tombstone tombstone ≡ true
  pub writer : id_in tombstone.columns ≡ Some (id t)
  -- no transaction is open of a client that hasn't stopped: one that read no record might else take its absence for never written
  pub gate : (u : ℕ) → (protocol_state past).is_open u ≡ true → (protocol_state past).stopped ((protocol_state past).owner u) ≡ true

-- No part: the event changes nothing at the stores, and is no stop.
abbrev pub is_quiet : Event → Bool
is_quiet (event.Take client text answer) = true
is_quiet (event.Call client store (ask.Get key) how r answer) = true
is_quiet (event.Call client store (ask.Scan span) how r answer) = true
is_quiet (event.Call client store (ask.PutIf rec condition) how r answer) = false
is_quiet (event.Call client store (ask.DeleteIf key condition) how r answer) = false
is_quiet (event.Call client store (ask.PutAll batch) how r answer) = false
is_quiet (event.Stop client) = false
is_quiet (event.Clock moment) = true
is_quiet (event.Idle client) = true
is_quiet (event.Land number store q how r) = false
is_quiet (event.Alter table column kind altered) = true

-- An event may have this action after the events so far.
abbrev pub IsEnabled : (ℕ → Plan) → List Labelled → Event → Action → Type 0
IsEnabled plan past e Other = is_quiet e ≡ true
IsEnabled plan past e (Begins t c) = MayBegin past e t c
IsEnabled plan past e (Takes t) = MayTake plan past e t
IsEnabled plan past e (Prepares t ks word) = MayPrepare plan past e t ks word
IsEnabled plan past e (Checks t i) = MayCheck plan past e t i
IsEnabled plan past e (Decides t word) = MayDecide plan past e t word
IsEnabled plan past e (Aborts t moment word) = MayAbort past e t moment word
IsEnabled plan past e (Rolls t ks d) = MayRollBy plan past e t ks d
IsEnabled plan past e (Removes k t) = MayRemove past e k t
IsEnabled plan past e (Ends t) = ⊥
IsEnabled plan past e (Stops c) = e ≡ event.Stop c

---- requests that take effect late

-- an event is a call of this request that was delayed, with this action
pub record IsDelayed (p : Labelled) (q : Request) (action : Action) : Type 0 where
  pub client : ℕ
  pub store : Name
  pub answer : Option Answer
  pub call : p.event ≡ event.Call client store q Delayed reply.Fault answer
  pub action_is : p.action ≡ action

-- A call of this request was delayed, with this action.
abbrev pub WasDelayed : List Labelled → Request → Action → Type 0
WasDelayed [] q action = ⊥
WasDelayed (p ∷ past) q action = IsDelayed p q action ⊎ WasDelayed past q action

-- An event may occur with this action. A landing has the action of the call that was delayed, of which its client learned nothing;
-- any other event has one that is enabled. Nothing here asks that a request lands once.
abbrev pub MayOccur : (ℕ → Plan) → List Labelled → Event → Action → Type 0
MayOccur plan past (event.Land number store q how r) action = WasDelayed past q action
MayOccur plan past e action = IsEnabled plan past e action

---- answers

-- the answer that an event gives to a statement
abbrev pub answer_of : Event → Option Answer
answer_of (event.Take client text answered) = answered
answer_of (event.Call client store q how r answered) = answered
answer_of (event.Stop client) = None
answer_of (event.Clock moment) = None
answer_of (event.Idle client) = None
answer_of (event.Land number store q how r) = None
answer_of (event.Alter table column kind altered) = None

-- Committed is answered to the COMMIT of a transaction that is known to be committed by then.
pub record MayAnswer (plan : ℕ → Plan) (past : List Labelled) (p : Labelled) : Type 0 where
  pub t : ℕ
  pub ends : p.ends ≡ Some t
  pub accepted : (protocol_state past).accepted t ≡ true
  pub moment : ℤ
  pub known : IsKnownCommitted plan (p ∷ past) t moment

-- Every other answer but Unknown denies that a COMMIT is recorded.
abbrev pub is_denial : Answer → Bool
is_denial answer.Committed = false
is_denial (answer.Unknown t) = false
is_denial _ = true

-- a row of a transaction was observed that is none: stores of known contents never show one
pub record IsBadRow (past : List Labelled) (t : ℕ) : Type 0 where
  pub row : Record
  pub observed : IsObserved past row
  pub key : row.key ≡ coordinator_key_of (id t)
  pub bad : result_ok (decision_in row) ≡ None

-- A COMMIT is denied only where it is known to be aborted by then, or no put of COMMITTED was asked that may yet have had its
-- effect, or its row is none.
abbrev pub MayDeny : List Labelled → Labelled → Type 0
MayDeny past p = (t : ℕ) → p.ends ≡ Some t → (protocol_state past).accepted t ≡ true → IsKnownAborted (p ∷ past) t ⊎ ((protocol_state (p ∷ past)).risked t ≡ false) ⊎ IsBadRow (p ∷ past) t

-- Each event may occur with its action and give its answer after those before it. What a transaction goes into its COMMIT with is its
-- plan.
abbrev pub IsLawful : (ℕ → Plan) → List Labelled → Type 0
IsLawful plan [] = Unit {0}
IsLawful plan (p ∷ past) =
    IsLawful plan past × MayOccur plan past p.event p.action
    × (answer_of p.event ≡ Some answer.Committed → MayAnswer plan past p)
    × ((a : Answer) → answer_of p.event ≡ Some a → is_denial a ≡ true → MayDeny past p)

-- an event with an action, which ends no transaction
abbrev pub labelled_with : Action → Event → Labelled
labelled_with action e = record { event = e; action = action; ends = None }

-- one whose answer ends a transaction
abbrev pub ends_with : ℕ → Action → Event → Labelled
ends_with t action e = record { event = e; action = action; ends = Some t }
