-- What was read of a statement, by what may come next.
use Rattle.std.specs.Prelude.{ℕ, Bool, List}
use Rattle.sdb_sqltext.specs.Types.{Comparison, Pair, Statement, TableName, Test, Value}
use Rattle.sdb_sqltext.specs.Verbs.{Verb}
use Rattle.sdb_sqltext.specs.Heads.{Head}

-- an INSERT or an UPSERT as far as it was read
pub record Draft : Type 0 where
  pub upsert : Bool
  pub table : TableName
  pub columns : List (List ℕ)
  pub values : List Value

-- a statement with its tests so far
pub record Filter : Type 0 where
  pub head : Head
  pub tests : List Test

pub data State : Type 0 where
  Start : State
  Into : Bool → State
  DeleteFrom : State
  FirstColumn : State
  NextColumn : List (List ℕ) → State
  ColumnEnd : List (List ℕ) → State
  StarEnd : State
  Namespace : Verb → State
  Dot : Verb → List ℕ → State
  Table : Verb → List ℕ → State
  OpenNames : Draft → State
  NextName : Draft → State
  NameEnd : Draft → State
  Values : Draft → State
  OpenLiterals : Draft → State
  NextLiteral : Draft → State
  LiteralEnd : Draft → State
  Set : TableName → State
  NextSet : TableName → List Pair → State
  SetName : TableName → List Pair → List ℕ → State
  SetTo : TableName → List Pair → List ℕ → State
  Target : Head → State
  NextTest : Filter → State
  Compare : Filter → List ℕ → State
  Right : Filter → List ℕ → Comparison → State
  Is : Filter → List ℕ → State
  Not : Filter → List ℕ → State
  TestEnd : Filter → State
  Limit : Filter → State
  Ended : Statement → State
  Closed : Statement → State
