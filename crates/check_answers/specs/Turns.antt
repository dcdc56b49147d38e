-- The statements of a transaction, as the program has them.
use Rattle.std.specs.Prelude.{◌≡◌, ℕ, List, [], ◌∷◌}
use Rattle.sdb_model.specs.Calls.{calls_of, end_of}
use Rattle.sdb_model.specs.declared.event.Event.{Event}
use Rattle.sdb_model.specs.Transactions.{Executed}
use Rattle.sdb_contents.specs.Commits.{executed_of}
use Rattle.check_tables.specs.Values.{all_made}
use Rattle.check_answers.specs.Tests.{IsReading}
use Rattle.check_answers.specs.declared.turn.Turn.{Turn}

-- A statement, what its text is read as, its calls, and the number of the event that it ends at.
pub record IsTurn (events : List Event) (client : ℕ) (s : Executed) (t : Turn) : Type 0 where
  pub executed : executed_of t.executed ≡ s
  pub read : IsReading s.text t.statement
  pub calls : all_made t.calls ≡ calls_of events client s
  pub ends : t.end ≡ end_of events s

abbrev pub AreTurns : List Event → ℕ → List Executed → List Turn → Type 0
AreTurns events client [] [] = Unit {0}
AreTurns events client [] (t ∷ ts) = ⊥
AreTurns events client (s ∷ ss) [] = ⊥
AreTurns events client (s ∷ ss) (t ∷ ts) = IsTurn events client s t × AreTurns events client ss ts
