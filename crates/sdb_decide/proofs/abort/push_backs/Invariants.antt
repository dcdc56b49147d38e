use Rattle.std.proofs.Common.{◌≡◌, ◌++◌, take}
use Rattle.std.specs.Prelude.{map}
use Rattle.sdb_phases.specs.Work.{back_of}
use Rattle.sdb_decide.proofs.abort.push_backs.Given as goal

abbrev pub invariant-loop-write : goal.invariant-loop-write
invariant-loop-write l = l.asks ≡ l.initial.asks ++ map (back_of l.id) (take l.write-index l.group)
