-- Where each transaction of a client's story is filed among the events: the actions agree with the texts about it.
use Rattle.std.specs.Prelude.{◌≡◌, ◌<◌, ◌^◌, ℕ, suc, true, false, List, ◌++◌, length, Some, None}
use Rattle.std.specs.List.{AllByRecursion}
use Rattle.law_clients.specs.Types.{Answer, Event, TxId}
use Rattle.sdb_model.specs.declared.answer.Answer.TheVariants as answer
use Rattle.sdb_model.specs.Sql.{reads_commit}
use Rattle.sdb_model.specs.Transactions.{Executed, statements_by, id_of}
use Rattle.law_protocol.specs.Lawful.{Labelled, id, is_denial, protocol_state}
use Rattle.law_protocol.specs.Faithful.{IsAnsweredCommittedAt}
use Rattle.law_protocol.specs.Explained.{IsDenied}
use Rattle.law_clients.specs.Story.{Finished, Rest, Opened, saids_of, statements_in, IsEndedTxn, IsRest, txn_ended_at}

-- the number of a client's k-th transaction, k from 0
abbrev pub number : ℕ → ℕ → ℕ
number c k = (id_of c (suc k)).0

-- A transaction that ended is filed: the parts say when it began, when its COMMIT was accepted, which is what ended it, and what
-- that was answered; Unknown names it.
pub record IsFiledAt (past : List Labelled) (t : ℕ) (f : Finished) : Type 0 where
  pub begun : (protocol_state past).begun t ≡ f.begin.accepted
  pub accepted : (protocol_state past).accepted t ≡ true → (reads_commit f.last.text ≡ true) × (f.last.accepted ≡ (protocol_state past).accepted_at t)
  pub answered : f.last.answer ≡ Some answer.Committed → IsAnsweredCommittedAt past t f.last.reached
  pub denied : (a : Answer) → f.last.answer ≡ Some a → is_denial a ≡ true → (protocol_state past).accepted t ≡ true → IsDenied past t
  pub unknown : (u : TxId) → f.last.answer ≡ Some (answer.Unknown u) → u ≡ id t

-- an open one began, and its COMMIT was not accepted
pub record IsOpenAt (past : List Labelled) (t : ℕ) (b : Executed) : Type 0 where
  pub begun : (protocol_state past).begun t ≡ b.accepted
  pub untaken : (protocol_state past).accepted t ≡ false

-- The statements of a client are a story, and each transaction of it is filed.
pub record Filed (c : ℕ) (events : List Event) (past : List Labelled) : Type 0 where
  pub whole : List Finished
  pub rest : Rest
  pub same : statements_by c events ≡ saids_of whole ++ statements_in rest
  pub ok : AllByRecursion IsEndedTxn whole
  pub rest_ok : IsRest rest
  pub filed : (k : ℕ) (f : Finished) → txn_ended_at whole k ≡ Some f → IsFiledAt past (number c k) f
  -- the numbers of the client and of its transactions have 64 bits
  pub fits : (k : ℕ) (f : Finished) → txn_ended_at whole k ≡ Some f → (c < 2 ^ 64) × (suc k < 2 ^ 64)
  pub is_open : (gap : List Executed) (b : Executed) (body : List Executed) → rest ≡ Opened gap b body → IsOpenAt past (number c (length whole)) b
  -- and no COMMIT of another was accepted
  pub none : (k : ℕ) → suc k < 2 ^ 64 → txn_ended_at whole k ≡ None → (protocol_state past).accepted (number c k) ≡ true → ⊥
