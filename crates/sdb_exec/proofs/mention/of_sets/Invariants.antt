use Rattle.std.proofs.Common.{◌≡◌, take, map}
use Rattle.sdb_model.specs.Refused.{mention_of_set}
use Rattle.sdb_exec.proofs.mention.of_sets.Given as goal

abbrev pub invariant-loop-pair : goal.invariant-loop-pair
invariant-loop-pair l = l.found ≡ map mention_of_set (take l.pair-index l.sets)
