-- What the laws of clustering columns speak of.
use Rattle.std.specs.Prelude.{◌≡◌, ◌∷◌, ◌++◌, ℕ, List, Some, true}
use Rattle.sdb_record.specs.Parts.{is_column_name}
use Rattle.sdb_schema.specs.declared.table.Direction.{Direction}
use Rattle.sdb_schema.specs.declared.table.Order.{Order}
use Rattle.sdb_loader.specs.Words.{direction_named}

-- A column's name and the word of a direction.
pub record DirectedColumn : Type 0 where
  pub name : List ℕ
  pub word : List ℕ
  pub direction : Direction
  pub fits : is_column_name name ≡ true
  pub named : direction_named word ≡ Some direction

-- the name, one space and the word
abbrev pub directed_text : DirectedColumn → List ℕ
directed_text c = c.name ++ 32 ∷ c.word

-- the clustering column of that name and direction
abbrev pub directed_order : DirectedColumn → Order
directed_order c = record { name = c.name; direction = c.direction }
