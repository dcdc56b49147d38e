use Rattle.std.proofs.Common.{◌≡◌, ◌++◌, drop, map}
use Rattle.std.specs.List.{filter_map}
use Rattle.serde_json.specs.View.{view}
use Rattle.sdb_loader.specs.Fields.{name_given}
use Rattle.sdb_loader.proofs.parts.names_among.Given as goal

abbrev pub invariant-loop-item : goal.invariant-loop-item
invariant-loop-item l =
    l.names ++ filter_map name_given (map view (drop l.item-index l.items)) ≡ filter_map name_given (map view l.items)
