-- The statements of an open transaction, against what it ran.
use Rattle.std.specs.Prelude.{◌≡◌, List, [], ◌∷◌, ◌++◌, map, filter, Some, true}
use Rattle.law_clients.specs.Types.{Answer, Statement}
use Rattle.sdb_model.specs.Sql.{Reads}
use Rattle.sdb_model.specs.Serial.{AreRead}
use Rattle.sdb_model.specs.Transactions.{Executed, is_effective}
use Rattle.law_clients.specs.Left.{Execution}

-- The texts of the statements that changed something read as the statements that ran, and were answered as these.
pub record BodyExecuted (ss : List Executed) (r : Execution) : Type 0 where
  pub read : AreRead (filter is_effective ss) r.body
  pub answered : map (λ s. s.answer) (filter is_effective ss) ≡ map Some r.answers

-- A text that changed something reads as a statement, which ran after the others and was answered so.
pub record RunsOneMore (r next : Execution) (s : Executed) : Type 0 where
  pub statement : Statement
  pub answer : Answer
  pub effective : is_effective s ≡ true
  pub reads : Reads s.text statement
  pub answered : s.answer ≡ Some answer
  pub body : next.body ≡ r.body ++ statement ∷ []
  pub answers : next.answers ≡ r.answers ++ answer ∷ []
