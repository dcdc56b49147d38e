use Rattle.std.proofs.Common.{◌≡◌, take}
use Rattle.std.specs.Prelude.{map}
use Rattle.sdb_phases.specs.Work.{forwards_of}
use Rattle.sdb_decide.proofs.commit.forwards.Given as goal

abbrev pub invariant-loop-group : goal.invariant-loop-group
invariant-loop-group l = l.asks ≡ map (forwards_of l.id l.now) (take l.group-index l.groups)
