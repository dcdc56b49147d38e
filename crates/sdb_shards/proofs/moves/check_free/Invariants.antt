use Rattle.std.proofs.Common.{take}
use Rattle.sdb_shards.specs.Moves.{AreFree}
use Rattle.sdb_shards.proofs.moves.check_free.Given as goal

abbrev pub invariant-loop-rec : goal.invariant-loop-rec
invariant-loop-rec l = AreFree l.coming (take l.rec-index l.there)
