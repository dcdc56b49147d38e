use Rattle.std.proofs.Common.{take}
use Rattle.sdb_contents.specs.Copying.{AreFree}
use Rattle.sdb_contents.proofs.version.check_free.Given as goal

abbrev pub invariant-loop-rec : goal.invariant-loop-rec
invariant-loop-rec l = AreFree l.in_from (take l.rec-index l.in_to)
