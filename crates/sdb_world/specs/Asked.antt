-- What the stores are asked in one act.
use Rattle.std.specs.Prelude.{◌≡◌, ◌++◌, ◌∷◌, [], List}
use Rattle.sdb_stores.specs.Views.{Attached, AreUnchanged}
use Rattle.sdb_model.specs.declared.event.Event.{Event}
use Rattle.sdb_model.specs.declared.event.Event.TheVariants as event
use Rattle.sdb_contents.specs.Board.{IsDelivered}

-- What an event says that the stores were asked: of a call, one call of the store of its table, or none where it was discarded or delayed; of
-- a landing, one call; of any other event, nothing, and they are as they were.
abbrev pub AskedBy : Event → Attached → Attached → Type 0
AskedBy (event.Call client store q how r answer) old new = IsDelivered q how r old new
AskedBy (event.Land number store q how r) old new = IsDelivered q how r old new
AskedBy e old new = AreUnchanged old new

-- One event came, and what it says is all that the stores were asked.
pub record AsksOnce (old new : Attached) (before now : List Event) : Type 0 where
  pub event : Event
  pub came : now ≡ before ++ event ∷ []
  pub asked : AskedBy event old new
