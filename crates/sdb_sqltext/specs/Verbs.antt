-- The parse of a table that comes next: to insert or upsert, to update, to delete, or to select these columns.
use Rattle.std.specs.Prelude.{ℕ, Bool, List, Option}

pub data Verb : Type 0 where
  Insert : Bool → Verb
  Update : Verb
  Delete : Verb
  Select : Option (List (List ℕ)) → Verb
