use Rattle.std.proofs.Common.{◌≡◌, drop, is_some}
use Rattle.serde_json.specs.View.{items_view}
use Rattle.sdb_loader.specs.Fields.{each_item, name_given}
use Rattle.sdb_loader.proofs.fields.all_say_names.Given as goal

abbrev pub invariant-loop-item : goal.invariant-loop-item
invariant-loop-item l =
    each_item (λ e. is_some (name_given e)) (items_view (drop l.item-index l.items)) ≡ each_item (λ e. is_some (name_given e)) (items_view l.items)
