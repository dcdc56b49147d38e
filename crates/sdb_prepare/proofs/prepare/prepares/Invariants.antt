use Rattle.std.proofs.Common.{◌≡◌, take}
use Rattle.std.specs.Prelude.{map}
use Rattle.sdb_phases.specs.Work.{prepares_of}
use Rattle.sdb_prepare.proofs.prepare.prepares.Given as goal

abbrev pub invariant-loop-group : goal.invariant-loop-group
invariant-loop-group l = l.asks ≡ map (prepares_of l.id l.now) (take l.group-index l.groups)
