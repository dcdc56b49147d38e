use Rattle.std.proofs.Common.{◌≡◌, length}
use Rattle.sdb_exec.specs.Risen.{names_rise}
use Rattle.sdb_exec.proofs.refuse.names_rise.Given as goal

abbrev pub invariant-loop-mention : goal.invariant-loop-mention
invariant-loop-mention l = names_rise l.rest ≡ names_rise l.mentions

abbrev pub decreases-loop-mention : goal.decreases-loop-mention
decreases-loop-mention l = length l.rest
