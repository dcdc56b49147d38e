-- What comes before WHERE.
use Rattle.std.specs.Prelude.{ℕ, List, Option}
use Rattle.sdb_sqltext.specs.Types.{Pair, TableName}

pub data Head : Type 0 where
  Update : TableName → List Pair → Head
  Delete : TableName → Head
  Select : TableName → Option (List (List ℕ)) → Head
