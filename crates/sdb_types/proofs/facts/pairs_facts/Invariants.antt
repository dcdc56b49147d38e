use Rattle.std.proofs.Common.{All, take}
use Rattle.sdb_types.specs.Fits.{pair_fits}
use Rattle.sdb_types.proofs.facts.pairs_facts.Given as goal

abbrev pub invariant-loop-pair : goal.invariant-loop-pair
invariant-loop-pair l = All pair_fits (take l.pair-index l.pairs)
