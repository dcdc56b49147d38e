-- Requests whose calls were delayed: what each asks by the plan of its transaction, and what stays so while it may take effect.
use Rattle.std.specs.Prelude.{◌≡◌, ℕ, ◌<◌, ◌^◌, true, false, List, length, map, Option, Some, None}
use Rattle.std.specs.List.{AllByRecursion}
use Rattle.std.specs.Option.{option_map}
use Rattle.law_protocol.specs.Types.{Decision, Key, Request, State}
use Rattle.sdb_types.specs.declared.record.Put.{Put}
use Rattle.sdb_types.specs.declared.record.State.TheVariants as state
use Rattle.sdb_types.specs.declared.record.Condition.TheVariants as condition
use Rattle.sdb_types.specs.declared.record.Request.TheVariants as ask
use Rattle.sdb_types.specs.Contents.{sent}
use Rattle.sdb_types.specs.Order.{are_distinct}
use Rattle.sdb_record.specs.declared.coordinator.Decision.TheVariants.{Committed, Aborted}
use Rattle.sdb_record.specs.Coordinator.{coordinator_row_of}
use Rattle.sdb_record.specs.Meta.{is_committed, is_moment}
use Rattle.sdb_record.specs.Moved.{condition_of}
use Rattle.sdb_record.specs.Rolls.{undo}
use Rattle.sdb_model.specs.Calls.{is_read}
use Rattle.sdb_model.specs.Tables.{is_data}
use Rattle.law_protocol.specs.Plan.{Plan, written, deletes, version_read_at}
use Rattle.law_protocol.specs.History.{Action, Other, Begins, Takes, Prepares, Checks, Decides, Aborts, Rolls, Removes, Ends, Stops, Ack, NoAck, Deciding, ProtocolState, History, base_of, has_key, IsLive, IsWriter, IsPrepared}
use Rattle.law_protocol.specs.Lawful.{OfOneKey, id}
use Rattle.law_protocol.specs.Records.{record_prepared_by, record_left_by}

---- what it asks

-- the put that prepares a key
abbrev pub prepare_at : (ℕ → Plan) → ℕ → Key → Put
prepare_at plan t k = record { rec = record_prepared_by plan t k; condition = condition_of (option_map id (base_of (written (plan t) k))) }

-- A request prepares keys that differ: it makes these puts in one call.
pub record AsksPrepare (plan : ℕ → Plan) (q : Request) (t : ℕ) (ks : List Key) : Type 0 where
  pub some : 0 < length ks
  pub once_each : are_distinct ks ≡ true
  pub asks : q ≡ sent (map (prepare_at plan t) ks)

-- the put that rolls what a transaction prepared at a key forward, where that is in this state
abbrev pub roll_forward_at : (ℕ → Plan) → ℕ → Key × State → Put
roll_forward_at plan t x = record { rec = record_left_by plan t x.0; condition = condition.Version (id t) x.1 }

-- A request rolls forward keys that differ: it makes these puts in one call, each in an unresolved state of what was prepared.
pub record AsksRollForward (plan : ℕ → Plan) (q : Request) (t : ℕ) (ks : List Key) : Type 0 where
  pub found : List (Key × State)
  pub keys : ks ≡ map (λ (x : Key × State). x.0) found
  pub some : 0 < length ks
  pub once_each : are_distinct ks ≡ true
  pub unresolved : AllByRecursion (λ (x : Key × State). is_committed x.1 ≡ false) found
  pub asks : q ≡ sent (map (roll_forward_at plan t) found)

-- the request that rolls what a transaction prepared at a key back, where that is in this state
abbrev pub roll_back_at : (ℕ → Plan) → ℕ → Key → State → Request
roll_back_at plan t k s = undo (condition.Version (id t) s) k (option_map (λ u. record_left_by plan u k) (base_of (written (plan t) k)))

-- a request is such a roll back, of an unresolved record
abbrev pub AsksRollBack : (ℕ → Plan) → Request → ℕ → Key → Type 0
AsksRollBack plan q t k = (s : State) × (is_committed s ≡ false) × (q ≡ roll_back_at plan t k s)

abbrev pub AsksRoll : (ℕ → Plan) → Request → ℕ → List Key → Decision → Type 0
AsksRoll plan q t ks Committed = AsksRollForward plan q t ks
AsksRoll plan q t ks Aborted = OfOneKey ks (AsksRollBack plan q t)

-- A request is what an event with this action asks of a store. An event with any other action asks nothing.
abbrev pub HasForm : (ℕ → Plan) → Request → Action → Type 0
HasForm plan q Other = is_read q ≡ true
HasForm plan q (Prepares t ks word) = AsksPrepare plan q t ks
HasForm plan q (Decides t word) = q ≡ ask.PutIf (coordinator_row_of (id t) Committed (plan t).now) condition.Absent
HasForm plan q (Aborts t moment word) = q ≡ ask.PutIf (coordinator_row_of (id t) Aborted moment) condition.Absent
HasForm plan q (Rolls t ks d) = AsksRoll plan q t ks d
HasForm plan q (Removes k t) = q ≡ ask.DeleteIf k (condition.Version (id t) state.Committed)
HasForm plan q (Begins t c) = ⊥
HasForm plan q (Takes t) = ⊥
HasForm plan q (Checks t i) = is_read q ≡ true
HasForm plan q (Ends t) = ⊥
HasForm plan q (Stops c) = ⊥

---- what stays so

-- a prepare of keys that were all asked, and none acknowledged
abbrev pub IsLate : ProtocolState → ℕ → List Key → Ack → Type 0
IsLate h t ks word = ((k : Key) → has_key ks k ≡ true → (h.asked t k ≡ true) × (h.answered t k ≡ false)) × (word ≡ NoAck)

-- a transaction whose put of COMMITTED was asked: its prepares were all acknowledged, and its reads all checked
pub record IsReady (plan : ℕ → Plan) (h : ProtocolState) (t : ℕ) : Type 0 where
  pub accepted : h.accepted t ≡ true
  pub prepared : IsPrepared plan h t
  pub checked : (i : ℕ) (k : Key) (found : Option ℕ) → version_read_at (plan t) i k ≡ Some found → written (plan t) k ≡ None → h.checked t i ≡ true
  pub agrees : (i : ℕ) (k : Key) (found base : Option ℕ) → version_read_at (plan t) i k ≡ Some found → written (plan t) k ≡ Some base → found ≡ base
  pub risked : h.risked t ≡ true
  pub stage : h.stage t ≡ Deciding

-- What stays so while a request may take effect. A prepare was not acknowledged, so its transaction never decides. A put of COMMITTED
-- is of a transaction that is ready. A roll is by its transaction's row, of what was asked. A removal is of a tombstone whose writer was recorded before
-- each transaction began that is open and whose client hasn't stopped.
abbrev pub StaysAllowed : (ℕ → Plan) → History → Action → Type 0
StaysAllowed plan w Other = Unit {0}
StaysAllowed plan w (Prepares t ks word) = (w.protocol.accepted t ≡ true) × IsLate w.protocol t ks word
StaysAllowed plan w (Decides t word) = IsReady plan w.protocol t × (word ≡ NoAck)
StaysAllowed plan w (Aborts t moment word) = (t < 2 ^ 128) × (is_moment moment ≡ true) × (word ≡ NoAck)
StaysAllowed plan w (Rolls t ks d) =
    (w.row t ≡ Some d) × (t < 2 ^ 128) × (w.protocol.accepted t ≡ true) × ((k : Key) → has_key ks k ≡ true → (is_data k ≡ true) × (w.protocol.asked t k ≡ true))
StaysAllowed plan w (Removes k u) =
    IsWriter plan w k u × (deletes (plan u) k ≡ true) × (is_data k ≡ true) × ((t : ℕ) → IsLive w.protocol t → w.decided_at u < w.protocol.begun t)
StaysAllowed plan w (Begins t c) = ⊥
StaysAllowed plan w (Takes t) = ⊥
StaysAllowed plan w (Checks t i) = ⊥
StaysAllowed plan w (Ends t) = ⊥
StaysAllowed plan w (Stops c) = ⊥
