-- What is asked of all statements, or of all transactions, of a run.
use Rattle.std.specs.Prelude.{ℕ, List, IfSome}
use Rattle.std.specs.List.{AllByRecursion}
use Rattle.check_answers.specs.Types.{Event, Table}
use Rattle.sdb_model.specs.Transactions.{statements_by}
use Rattle.check_tables.specs.Values.{taker}
use Rattle.check_answers.specs.All.{HasClientNoDirtyReads}
use Rattle.check_answers.specs.Counts.{IsExecutedCounted, IsExecutedResolved}
use Rattle.check_answers.specs.declared.all.Law.{Law}
use Rattle.check_answers.specs.declared.all.Law.TheVariants as law

abbrev pub HoldsOfClient : Law → List Table → List Event → ℕ → Type 0
HoldsOfClient law.Counts catalog events client = AllByRecursion (IsExecutedCounted catalog events client) (statements_by client events)
HoldsOfClient law.Rolls catalog events client = AllByRecursion (IsExecutedResolved events client) (statements_by client events)
HoldsOfClient (law.Rows x) catalog events client = HasClientNoDirtyReads catalog events x.now client

-- it holds of each client that takes a statement by these events
abbrev pub HoldsOfClients : Law → List Table → List Event → List Event → Type 0
HoldsOfClients l catalog events some = AllByRecursion (λ e. IfSome (taker e) (HoldsOfClient l catalog events)) some
