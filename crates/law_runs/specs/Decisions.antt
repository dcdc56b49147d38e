-- What calls show of the decisions on transactions.
use Rattle.std.specs.Prelude.{◌≡◌, ◌<◌, ◌^◌, ℕ, List, Some, Contains}
use Rattle.law_runs.specs.Types.{Decided, Event, TxId}
use Rattle.sdb_model.specs.Calls.{StoreCall, calls_by, decision_observed}

-- All calls that show a decision on a transaction show the same one, whichever clients made them.
abbrev pub ObserveOne : List Event → Type 0
ObserveOne events = (c d : ℕ) (id : TxId) (m x : StoreCall) (a b : Decided) → id.0 < 2 ^ 128 → Contains (calls_by events c) m → Contains (calls_by events d) x → decision_observed id m ≡ Some a → decision_observed id x ≡ Some b → a ≡ b
