use Rattle.std.proofs.Common.{◌≡◌, ◌++◌, take}
use Rattle.std.specs.List.{flat_map}
use Rattle.sdb_contents.specs.Commits.{executed_of}
use Rattle.check_tables.specs.Values.{all_items, items_of_statement}
use Rattle.check_tables.proofs.recorded_read.add_all_executed.Given as goal

abbrev pub invariant-loop-executed : goal.invariant-loop-executed
invariant-loop-executed l = all_items l.read_set ≡ all_items l.initial.read_set ++ flat_map (λ s. items_of_statement l.events l.client (executed_of s)) (take l.executed-index l.all)
