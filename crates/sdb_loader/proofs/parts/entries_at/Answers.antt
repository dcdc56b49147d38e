use Rattle.std.proofs.Common.{[], map, sym, ap, ◌∙◌}
use Rattle.std.specs.Option.{option_map_or}
use Rattle.serde_json.specs.View.{view}
use Rattle.sdb_loader.specs.Fields.{list_of}
use Rattle.sdb_loader.proofs.Values.{list_of-items_view}
use Rattle.sdb_loader.proofs.parts.entries_at.Goals as goal

pub returns-in-Some : goal.returns-in-Some
returns-in-Some c =
    ap (map view) c.as_slice.ensures.value ∙ sym (list_of-items_view c.in-Some.items.now.items) ∙ ap (λ o. option_map_or list_of o []) c.in-Some.ensures
