-- How many calls come out Broken, by what the stores count.
use Rattle.std.specs.Prelude.{◌⊎◌, ◌≤◌, ◌+◌, List}
use Rattle.sdb_model.specs.declared.event.Event.{Event}
use Rattle.sdb_model.specs.Counted.{broken_in}
use Rattle.sdb_stores.specs.Views.{StoreView, total_faults}
use Rattle.sdb_contents.specs.Board.{IsFull}

-- From one moment to another at most as many events more are Broken as the stores' count of failures rose, unless the count of some store
-- is the greatest value of its type.
abbrev pub BreaksWithin : List Event → List Event → List StoreView → List StoreView → Type 0
BreaksWithin before now old new = (broken_in now + total_faults old ≤ broken_in before + total_faults new) ⊎ IsFull new
