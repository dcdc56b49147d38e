use Rattle.std.proofs.Common.{◌≡◌, take}
use Rattle.std.specs.Prelude.{map}
use Rattle.sdb_phases.specs.Work.{prepare_of}
use Rattle.sdb_prepare.proofs.prepare.puts.Given as goal

abbrev pub invariant-loop-write : goal.invariant-loop-write
invariant-loop-write l = l.puts ≡ map (prepare_of l.id l.now) (take l.write-index l.group)
