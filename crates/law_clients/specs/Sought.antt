-- A transaction that is sought among its client's statements.
use Rattle.std.specs.Prelude.{◌≡◌, ◌++◌, ℕ, suc, List, Option}
use Rattle.std.specs.List.{AllByRecursion}
use Rattle.law_clients.specs.Types.{Event, TxId}
use Rattle.sdb_model.specs.Transactions.{Executed, begun, client_of, commit_of, ordinal_of, statements_by}
use Rattle.law_clients.specs.Story.{Finished, IsEndedTxn, IsRest, Opened, Rest, statements_in, saids_of}

-- An id, which is that of its client's k-th transaction, k from 0, and the client's statements: its transactions that ended, and what came
-- since.
pub record Sought : Type 0 where
  pub events : List Event
  pub id : TxId
  pub whole : List Finished
  pub rest : Rest
  pub k : ℕ
  pub same : statements_by (client_of id) events ≡ saids_of whole ++ statements_in rest
  pub ordinal : ordinal_of id ≡ suc k
  pub finished : AllByRecursion IsEndedTxn whole

-- Since the last end came an open transaction, with this BEGIN and these statements.
pub record IsOpenWith (x : Sought) (begin : Executed) (body : List Executed) : Type 0 where
  pub gap : List Executed
  pub opened : x.rest ≡ Opened gap begin body
  pub ok : IsRest x.rest

-- The texts say that it began at this event, if it did, and that this is its COMMIT, if it has one.
abbrev pub TextsGive : Sought → Option ℕ → Option Executed → Type 0
TextsGive x at commit = (begun x.events x.id ≡ at) × (commit_of x.events x.id ≡ commit)
