-- What is asked of all transactions of a run.
use Rattle.std.specs.Prelude.{◌≡◌, ℕ, zero, suc, List, length, Some, IfSome, Contains}
use Rattle.std.specs.List.{AllByRecursion}
use Rattle.check_answers.specs.Types.{Answer, Event, Table, TxId}
use Rattle.sdb_model.specs.DirtyReads.{CommittedBy, AnswersAreOf}
use Rattle.sdb_model.specs.Transactions.{Executed, client_of, id_of, statements_by, statements_of}
use Rattle.check_tables.specs.Values.{taker}
use Rattle.check_answers.specs.declared.stores.Stores.{Stores}
use Rattle.check_answers.specs.Values.{all_moments, all_contents}

-- the rows that answers to the statements of a transaction show are rows that it has
abbrev pub HasTransactionNoDirtyReads : List Table → List Event → Stores → TxId → Type 0
HasTransactionNoDirtyReads catalog events x id =
    (s : Executed) (a : Answer) → Contains (statements_of events id) s → s.answer ≡ Some a → AnswersAreOf catalog (CommittedBy x.places events (all_contents x.opening) (all_moments x.moments) (client_of id)) events id s a

-- it holds of a client's first transactions
abbrev pub HaveNoDirtyReadsUpto : List Table → List Event → Stores → ℕ → ℕ → Type 0
HaveNoDirtyReadsUpto catalog events x client zero = Unit {0}
HaveNoDirtyReadsUpto catalog events x client (suc n) = HasTransactionNoDirtyReads catalog events x (id_of client (suc n)) × HaveNoDirtyReadsUpto catalog events x client n

abbrev pub HasClientNoDirtyReads : List Table → List Event → Stores → ℕ → Type 0
HasClientNoDirtyReads catalog events x client = HaveNoDirtyReadsUpto catalog events x client (length (statements_by client events))

-- the transactions of each client that takes a statement by these events
abbrev pub HaveClientsNoDirtyReads : List Table → List Event → Stores → List Event → Type 0
HaveClientsNoDirtyReads catalog events x some = AllByRecursion (λ e. IfSome (taker e) (HasClientNoDirtyReads catalog events x)) some
