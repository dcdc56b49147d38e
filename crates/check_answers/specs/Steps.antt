-- Steps of clients under a catalog.
use Rattle.std.specs.Prelude.{◌≡◌, ℕ, List, Option}
use Rattle.check_answers.specs.Types.{Answer, Event, Script, Table}
use Rattle.sdb_model.specs.Catalogs.{catalog_after}
use Rattle.sdb_client.specs.Execution.{IsStepFrom, State, TakeStep}

-- A client takes a statement, after any events that leave that catalog.
abbrev pub IsTakenUnder : Script → List Table → State → ℕ → List ℕ → Option Answer → State → Type 0
IsTakenUnder script catalog s client text answer t = (past : List Event) → catalog ≡ catalog_after script.catalog past → TakeStep script past s client text answer t

-- An event is a step, after any events that leave that catalog.
abbrev pub IsStepUnder : Script → List Table → State → Event → State → Type 0
IsStepUnder script catalog s e t = (past : List Event) → catalog ≡ catalog_after script.catalog past → IsStepFrom script past s e t
