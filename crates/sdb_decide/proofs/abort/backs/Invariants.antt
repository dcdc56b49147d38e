use Rattle.std.proofs.Common.{◌≡◌, take}
use Rattle.std.specs.Prelude.{map}
use Rattle.sdb_record.specs.Groups.{ungrouped}
use Rattle.sdb_phases.specs.Work.{back_of}
use Rattle.sdb_decide.proofs.abort.backs.Given as goal

abbrev pub invariant-loop-group : goal.invariant-loop-group
invariant-loop-group l = l.asks ≡ map (back_of l.id) (ungrouped (take l.group-index l.groups))
