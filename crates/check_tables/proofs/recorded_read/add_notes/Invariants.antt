use Rattle.std.proofs.Common.{◌≡◌, ◌++◌, drop}
use Rattle.std.specs.List.{flat_map}
use Rattle.sdb_model.specs.ReadSet.{read_items}
use Rattle.check_tables.specs.Values.{all_made, all_items, items_by}
use Rattle.check_tables.proofs.recorded_read.add_notes.Given as goal

abbrev pub invariant-loop-made : goal.invariant-loop-made
invariant-loop-made l = all_items l.read_set ++ flat_map (items_by (all_made l.calls)) (all_made (drop l.made-index l.calls)) ≡ all_items l.initial.read_set ++ read_items (all_made l.calls)
