-- What the stores contain at moments, as values of the model.
use Rattle.std.specs.Prelude.{ℕ, List, map, Option}
use Rattle.check_answers.specs.Types.{Key, Pair}
use Rattle.sdb_model.specs.Events as events
use Rattle.sdb_model.specs.Events.{moment}
use Rattle.sdb_model.specs.Images.{row_at}
use Rattle.check_answers.specs.declared.stores.StoreContents.{StoreContents}
use Rattle.check_answers.specs.declared.stores.Stores.{Stores}

abbrev pub contents_value : StoreContents → events.StoreContents
contents_value s = record { name = s.name; contents = s.rows }

abbrev pub all_contents : List StoreContents → List events.StoreContents
all_contents = map contents_value

abbrev pub all_moments : List (List StoreContents) → List (List events.StoreContents)
all_moments = map all_contents

-- what the stores contain after so many events
abbrev pub contents_then : Stores → ℕ → List events.StoreContents
contents_then x n = moment (all_contents x.opening) (all_moments x.moments) n

-- the row of the committed image at a key then
abbrev pub row_then : Stores → Key → ℕ → Option (List Pair)
row_then x key n = row_at x.places (contents_then x n) key
