use Rattle.std.proofs.Common.{All, take}
use Rattle.sdb_types.specs.Fits.{value_fits}
use Rattle.sdb_types.proofs.facts.values_facts.Given as goal

abbrev pub invariant-loop-value : goal.invariant-loop-value
invariant-loop-value l = All value_fits (take l.value-index l.values)
