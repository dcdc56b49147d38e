-- Real time between transactions is real time between what clients see, where each answer Committed has its transaction.
use Rattle.sdb_model.specs.declared.event.Event.{Event}
use Rattle.sdb_model.specs.declared.event.Point.{Point}
use Rattle.sdb_types.specs.declared.place.Place.{Place}
use Rattle.sdb_model.specs.Events.{StoreContents}
use Rattle.sdb_model.specs.Serial.{CommittedIsOwned, RespectsRealTime, TransactionsInRealTime}
use Rattle.std.specs.Prelude.{List}

pub statements_in_time : (places : List Place) (events : List Event) (closing : List StoreContents) (order : List Point) → CommittedIsOwned places events closing → TransactionsInRealTime places events closing order → RespectsRealTime places events closing order
statements_in_time places events closing order owned k client s among answered late small recorded m n at began behind =
    let o = owned client s among answered in
    (o.id, o.commit, k o.id late o.fits small s o.commit answered recorded m n at began behind)
