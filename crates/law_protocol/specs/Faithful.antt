-- Faithful runs: their actions are those that the model derives from the texts of the events.
use Rattle.std.specs.Prelude.{None, ◌≡◌, ◌⊎◌, ◌↔◌, ℕ, ◌^◌, ◌<◌, ◌≤◌, false, true, List, [], ◌∷◌, length, take, Some, Contains}
use Rattle.std.specs.Option.{option_map_or}
use Rattle.law_protocol.specs.Types.{Answer, Event, Place, TxId}
use Rattle.sdb_model.specs.declared.answer.Answer.TheVariants as answer
use Rattle.sdb_model.specs.Events.{StoreContents}
use Rattle.sdb_model.specs.ReadSet.{ReadItem, read_set_of}
use Rattle.sdb_model.specs.Serial.{commit_answer, CommittedIsOwned}
use Rattle.law_protocol.specs.Plan.{Plan}
use Rattle.law_protocol.specs.Explained.{IsDenied, events_of, newest_first}
use Rattle.sdb_model.specs.Follows.{has_stopped}
use Rattle.sdb_model.specs.Transactions.{Executed, statements_by, begun, client_of, commit_of, ending, Recorded}
use Rattle.law_protocol.specs.History.{IsLive}
use Rattle.law_protocol.specs.Lawful.{Labelled, id, answer_of, is_denial, protocol_state}

-- Committed was answered to a transaction's COMMIT by the event of this number.
abbrev pub IsAnsweredCommittedAt : List Labelled → ℕ → ℕ → Type 0
IsAnsweredCommittedAt [] t n = ⊥
IsAnsweredCommittedAt (p ∷ past) t n = ((answer_of p.event ≡ Some answer.Committed) × (p.ends ≡ Some t) × (n ≡ (protocol_state (p ∷ past)).now)) ⊎ IsAnsweredCommittedAt past t n

-- A statement is the COMMIT of a transaction of its client.
pub record IsCommitOf (events : List Event) (client : ℕ) (s : Executed) : Type 0 where
  pub t : ℕ
  pub fits : t < 2 ^ 128
  pub owner : client_of (id t) ≡ client
  pub commit : commit_of events (id t) ≡ Some s

-- The read set of each transaction whose COMMIT was accepted is what its statements read: none is left out, and none added.
abbrev pub AreReadSets : (ℕ → Plan) → List Event → List Labelled → Type 0
AreReadSets plan events past = (t : ℕ) → (protocol_state past).accepted t ≡ true → (item : ReadItem) → Contains (plan t).read_set item ↔ Contains (read_set_of events (id t)) item

-- The actions agree with the texts about each transaction: when it began, when its COMMIT was accepted, and when that was answered
-- Committed, or that it was denied. Nothing but the COMMIT of a transaction is answered Committed. Unknown names the transaction.
pub record IsFaithful (events : List Event) (past : List Labelled) : Type 0 where
  pub begun : (t n : ℕ) → t < 2 ^ 128 → begun events (id t) ≡ Some n → (protocol_state past).begun t ≡ n
  pub accepted : (t : ℕ) → (protocol_state past).accepted t ≡ true → option_map_or (λ s. s.accepted) (commit_of events (id t)) 0 ≡ (protocol_state past).accepted_at t
  pub answered : (t : ℕ) (s : Executed) → t < 2 ^ 128 → commit_of events (id t) ≡ Some s → s.answer ≡ Some answer.Committed → IsAnsweredCommittedAt past t s.reached
  pub denied : (t : ℕ) (s : Executed) (a : Answer) → t < 2 ^ 128 → commit_of events (id t) ≡ Some s → s.answer ≡ Some a → is_denial a ≡ true → (protocol_state past).accepted t ≡ true → IsDenied past t
  pub owned : (client : ℕ) (s : Executed) → Contains (statements_by client events) s → s.answer ≡ Some answer.Committed → IsCommitOf events client s
  pub unknown : (t : ℕ) (s : Executed) (u : TxId) → commit_of events (id t) ≡ Some s → s.answer ≡ Some (answer.Unknown u) → u ≡ id t

-- A transaction that is open by the texts, and whose client hasn't stopped, began by its action at the same event, and is open by the actions.
abbrev pub AreLive : List Event → List Labelled → Type 0
AreLive events past = (t began : ℕ) → begun events (id t) ≡ Some began → ending events (id t) ≡ None → has_stopped (client_of (id t)) events ≡ false → ((protocol_state past).begun t ≡ began) × IsLive (protocol_state past) t

-- The actions agree with the texts about who is open, at each moment, and about whose a transaction is.
pub record AgreesOnOpen (labelled : List Labelled) : Type 0 where
  pub live : (n : ℕ) → n ≤ length labelled → AreLive (events_of (take n labelled)) (newest_first (take n labelled))
  pub owned : (t : ℕ) → (protocol_state (newest_first labelled)).accepted t ≡ true → (protocol_state (newest_first labelled)).owner t ≡ client_of (id t)

-- What the COMMIT of a transaction was answered is true: Committed only of a recorded one, and nothing else is answered so; and of
-- a recorded one Committed, Unknown or nothing.
pub record AnswersAreTrue (places : List Place) (events : List Event) (closing : List StoreContents) : Type 0 where
  pub committed : (t : TxId) → t.0 < 2 ^ 128 → commit_answer events t ≡ Some answer.Committed → Recorded places closing t
  pub owned : CommittedIsOwned places events closing
  pub known : (t : TxId) → t.0 < 2 ^ 128 → Recorded places closing t → (commit_answer events t ≡ Some answer.Committed) ⊎ (commit_answer events t ≡ Some (answer.Unknown t)) ⊎ (commit_answer events t ≡ None)
