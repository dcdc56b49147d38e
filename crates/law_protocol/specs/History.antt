-- The actions of events in the protocol, and the state that a list of them leads to: what was answered, and what took effect.
use Rattle.std.specs.Prelude.{◌≡◌, ◌≢◌, ◌⊎◌, ℕ, ℤ, pos, ◌+◌, ◌<◌, Bool, true, false, ◌&&◌, ◌==◌, if◌then◌else◌, List, Option, Some, None}
use Rattle.law_protocol.specs.Types.{Decision, Key}
use Rattle.sdb_types.specs.Order.{same_key}
pub use Rattle.sdb_types.specs.Order.{has_key}
use Rattle.sdb_record.specs.declared.coordinator.Decision.TheVariants.{Committed, Aborted}
use Rattle.law_protocol.specs.Plan.{Plan, written}

---- parts

-- What its client was answered to a put: that it was applied, that its condition failed, nothing, or out of memory.
pub data Ack : Type 0 where
  Yes : Ack
  No : Ack
  NoAck : Ack
  OutOfMemory : Ack

-- The action of an event in the protocol. Transactions are named by the numbers of their ids.
pub data Action : Type 0 where
  -- none: reads of statements and of rows, moves of the clock, idle steps, refused statements
  Other : Action
  -- a transaction of a client begins
  Begins : (t c : ℕ) → Action
  -- its COMMIT is accepted
  Takes : (t : ℕ) → Action
  -- its prepare of keys, by one request
  Prepares : (t : ℕ) (ks : List Key) (word : Ack) → Action
  -- its check of a read of the read set, which found all as read
  Checks : (t i : ℕ) → Action
  -- the put of its row COMMITTED
  Decides : (t : ℕ) (word : Ack) → Action
  -- a put of its row ABORTED, with this moment, by anybody
  Aborts : (t : ℕ) (moment : ℤ) (word : Ack) → Action
  -- a roll of what it prepared at keys, by a decision, by anybody, by one request
  Rolls : (t : ℕ) (ks : List Key) (decision : Decision) → Action
  -- the removal of the tombstone that it left at a key
  Removes : (k : Key) (t : ℕ) → Action
  -- an answer ends it
  Ends : (t : ℕ) → Action
  -- a client stops
  Stops : (c : ℕ) → Action

abbrev pub is_yes : Ack → Bool
is_yes Yes = true
is_yes No = false
is_yes NoAck = false
is_yes OutOfMemory = false

abbrev pub is_met : Ack → Bool
is_met Yes = true
is_met No = true
is_met NoAck = false
is_met OutOfMemory = false

abbrev pub is_out_of_memory_ack : Ack → Bool
is_out_of_memory_ack Yes = false
is_out_of_memory_ack No = false
is_out_of_memory_ack NoAck = false
is_out_of_memory_ack OutOfMemory = true

---- what the events say

pub data Stage : Type 0 where
  Preparing : Stage
  Checking : Stage
  Deciding : Stage

-- What the events themselves say. No field depends on what the stores hold.
pub record ProtocolState : Type 0 where
  -- how many events there were
  pub now : ℕ
  -- the number of the event at which a transaction began, and 0 before
  pub begun : ℕ → ℕ
  pub owner : ℕ → ℕ
  pub is_open : ℕ → Bool
  pub stopped : ℕ → Bool
  -- its COMMIT was accepted
  pub accepted : ℕ → Bool
  -- the number of the event that took it, and 0 before
  pub accepted_at : ℕ → ℕ
  pub stage : ℕ → Stage
  -- its prepare of a key was asked; and was seen and applied
  pub asked : ℕ → Key → Bool
  pub answered : ℕ → Key → Bool
  -- its check of a read of the read set was made and found all as read
  pub checked : ℕ → ℕ → Bool
  -- a put of its row COMMITTED was asked, and not answered that memory was wanting
  pub risked : ℕ → Bool
  -- a put of its row COMMITTED was seen and applied
  pub won : ℕ → Bool
  -- a put of its row ABORTED was seen and applied
  pub dead : ℕ → Bool
  -- a put of its row was seen, and applied or not met
  pub met : ℕ → Bool
  -- its place in the order: the event of its last prepare that was seen and applied, or else that took its COMMIT
  pub point : ℕ → ℕ

abbrev pub at : {X : Type 0} → (ℕ → X) → ℕ → X → ℕ → X
at f t x u = if u == t then x else f u

abbrev pub at_key : {X : Type 0} → (Key → X) → Key → X → Key → X
at_key f k x q = if same_key q k then x else f q

abbrev pub at_keys : {X : Type 0} → (Key → X) → List Key → (Key → X) → Key → X
at_keys f ks x q = if has_key ks q then x q else f q

-- the same, of one transaction
abbrev pub at_keys_of : {X : Type 0} → (ℕ → Key → X) → ℕ → List Key → (Key → X) → ℕ → Key → X
at_keys_of f t ks x u q = if u == t && has_key ks q then x q else f u q

abbrev pub at_item : {X : Type 0} → (ℕ → ℕ → X) → ℕ → ℕ → X → ℕ → ℕ → X
at_item f t i x u j = if u == t && j == i then x else f u j

abbrev pub initial_state : ProtocolState
initial_state = record {
  now = 0;
  begun = λ t. 0;
  owner = λ t. 0;
  is_open = λ t. false;
  stopped = λ c. false;
  accepted = λ t. false;
  accepted_at = λ t. 0;
  stage = λ t. Preparing;
  asked = λ t k. false;
  answered = λ t k. false;
  checked = λ t i. false;
  risked = λ t. false;
  won = λ t. false;
  dead = λ t. false;
  met = λ t. false;
  point = λ t. 0;
}

-- one event more: the clock shows its number
abbrev pub ticked : ProtocolState → ProtocolState
ticked h = record h { now = h.now + 1 }

-- the state after one more action of the event whose number the clock shows
abbrev pub state_after : ProtocolState → Action → ProtocolState
state_after h Other = h
state_after h (Begins t c) = record h { begun = at h.begun t h.now; owner = at h.owner t c; is_open = at h.is_open t true }
state_after h (Takes t) = record h { accepted = at h.accepted t true; accepted_at = at h.accepted_at t h.now; point = at h.point t h.now }
state_after h (Prepares t ks word) = record h {
  asked = at_keys_of h.asked t ks (λ q. true);
  answered = at_keys_of h.answered t ks (λ q. is_yes word);
  point = if is_yes word then at h.point t h.now else h.point;
}
state_after h (Checks t i) = record h { stage = at h.stage t Checking; checked = at_item h.checked t i true }
state_after h (Decides t word) = record h {
  stage = at h.stage t Deciding;
  risked = if is_out_of_memory_ack word then h.risked else at h.risked t true;
  won = if is_yes word then at h.won t true else h.won;
  met = if is_met word then at h.met t true else h.met;
}
state_after h (Aborts t moment word) = record h {
  dead = if is_yes word then at h.dead t true else h.dead;
  met = if is_met word then at h.met t true else h.met;
}
state_after h (Rolls t ks decision) = h
state_after h (Removes k t) = h
state_after h (Ends t) = record h { is_open = at h.is_open t false }
state_after h (Stops c) = record h { stopped = at h.stopped c true }

-- the state after one more event, by its first action
abbrev pub state_after_event : ProtocolState → Action → ProtocolState
state_after_event h r = state_after (ticked h) r

---- what was done

-- What is at a key: the committed record that a transaction left there, or the record that it prepared there.
pub data Standing : Type 0 where
  Final : (t : ℕ) → Standing
  Held : (t : ℕ) → Standing

-- What the events did, as far as it took effect, with the numbers of the events that did it.
pub record History : Type 0 where
  pub protocol : ProtocolState
  -- what is at each key outside the coordinator's table
  pub rows : Key → Option Standing
  -- the coordinator's row of each transaction, the moment in it, and the event that put it
  pub row : ℕ → Option Decision
  pub moment : ℕ → ℤ
  pub decided_at : ℕ → ℕ
  -- its prepare of a key took effect; at this event; over what was observed there
  pub took_effect : ℕ → Key → Bool
  pub prepared_at : ℕ → Key → ℕ
  pub under : ℕ → Key → Option ℕ
  -- the event of its check of a read of the read set, and what was observed at each key then
  pub checked_at : ℕ → ℕ → ℕ
  pub basis : ℕ → ℕ → Key → Option ℕ
  -- whose tombstone was removed last at a key, and when
  pub gone : Key → Option ℕ
  pub gone_at : Key → ℕ

abbrev pub start : History
start = record {
  protocol = initial_state;
  rows = λ k. None;
  row = λ t. None;
  moment = λ t. pos 0;
  decided_at = λ t. 0;
  took_effect = λ t k. false;
  prepared_at = λ t k. 0;
  under = λ t k. None;
  checked_at = λ t i. 0;
  basis = λ t i k. None;
  gone = λ k. None;
  gone_at = λ k. 0;
}

abbrev pub base_of : Option (Option ℕ) → Option ℕ
base_of None = None
base_of (Some version) = version

abbrev pub final_of : Option ℕ → Option Standing
final_of None = None
final_of (Some t) = Some (Final t)

-- what a roll leaves
abbrev pub rolled : Plan → ℕ → Key → Decision → Option Standing
rolled plan t k Committed = Some (Final t)
rolled plan t k Aborted = final_of (base_of (written plan k))

abbrev pub is_recorded : Option Decision → Bool
is_recorded None = false
is_recorded (Some Committed) = true
is_recorded (Some Aborted) = false

-- the writer of the committed record that is meant by what is there
abbrev pub image_in : (ℕ → Plan) → History → Key → Option Standing → Option ℕ
image_in plan w k None = None
image_in plan w k (Some (Final t)) = Some t
image_in plan w k (Some (Held t)) = if is_recorded (w.row t) then Some t else base_of (written (plan t) k)

abbrev pub image : (ℕ → Plan) → History → Key → Option ℕ
image plan w k = image_in plan w k (w.rows k)

abbrev pub or_else : Option ℕ → Option ℕ → Option ℕ
or_else None q = q
or_else (Some t) q = Some t

-- the writer of the image, or of the tombstone that was removed there last
abbrev pub shadow : (ℕ → Plan) → History → Key → Option ℕ
shadow plan w k = or_else (image plan w k) (w.gone k)

abbrev pub with_row : History → ProtocolState → ℕ → Decision → ℤ → Bool → History
with_row w h t decision moment done = record w {
  protocol = h;
  row = if done then at w.row t (Some decision) else w.row;
  moment = if done then at w.moment t moment else w.moment;
  decided_at = if done then at w.decided_at t h.now else w.decided_at;
}

-- what was done, after one more part, where the event took effect or not
abbrev pub happens : (ℕ → Plan) → History → Action → Bool → History
happens plan w (Prepares t ks word) done = record w {
  protocol = state_after_event w.protocol (Prepares t ks word);
  rows = if done then at_keys w.rows ks (λ q. Some (Held t)) else w.rows;
  took_effect = if done then at_keys_of w.took_effect t ks (λ q. true) else w.took_effect;
  prepared_at = if done then at_keys_of w.prepared_at t ks (λ q. w.protocol.now + 1) else w.prepared_at;
  under = if done then at_keys_of w.under t ks (shadow plan w) else w.under;
}
happens plan w (Checks t i) done = record w {
  protocol = state_after_event w.protocol (Checks t i);
  checked_at = at_item w.checked_at t i (w.protocol.now + 1);
  basis = at_item w.basis t i (shadow plan w);
}
happens plan w (Decides t word) done = with_row w (state_after_event w.protocol (Decides t word)) t Committed (plan t).now done
happens plan w (Aborts t moment word) done = with_row w (state_after_event w.protocol (Aborts t moment word)) t Aborted moment done
happens plan w (Rolls t ks decision) done = record w {
  protocol = state_after_event w.protocol (Rolls t ks decision);
  rows = if done then at_keys w.rows ks (λ q. rolled (plan t) t q decision) else w.rows;
}
happens plan w (Removes k t) done = record w {
  protocol = state_after_event w.protocol (Removes k t);
  rows = if done then at_key w.rows k None else w.rows;
  gone = if done then at_key w.gone k (Some t) else w.gone;
  gone_at = if done then at_key w.gone_at k (w.protocol.now + 1) else w.gone_at;
}
happens plan w Other done = record w { protocol = state_after_event w.protocol Other }
happens plan w (Begins t c) done = record w { protocol = state_after_event w.protocol (Begins t c) }
happens plan w (Takes t) done = record w { protocol = state_after_event w.protocol (Takes t) }
happens plan w (Ends t) done = record w { protocol = state_after_event w.protocol (Ends t) }
happens plan w (Stops c) done = record w { protocol = state_after_event w.protocol (Stops c) }

---- facts

-- its client hasn't stopped
abbrev pub IsLive : ProtocolState → ℕ → Type 0
IsLive h t = (h.is_open t ≡ true) × (h.stopped (h.owner t) ≡ false)

-- a recorded transaction that writes a key
abbrev pub IsWriter : (ℕ → Plan) → History → Key → ℕ → Type 0
IsWriter plan w k t = (w.row t ≡ Some Committed) × (written (plan t) k ≢ None)

-- each key that it writes was prepared, and its client was answered so
abbrev pub IsPrepared : (ℕ → Plan) → ProtocolState → ℕ → Type 0
IsPrepared plan h t = (k : Key) → written (plan t) k ≢ None → h.answered t k ≡ true

-- what is there is of this version, or nothing is there
abbrev pub has_version : Option Standing → Option ℕ → Bool
has_version None None = true
has_version None (Some u) = false
has_version (Some (Final t)) None = false
has_version (Some (Final t)) (Some u) = t == u
has_version (Some (Held t)) version = false

-- It is one transaction or one with a later point.
abbrev pub Covers : ProtocolState → ℕ → Option ℕ → Type 0
Covers h t None = ⊥
Covers h t (Some u) = (u ≡ t) ⊎ (h.point t < h.point u)
