use Rattle.std.proofs.Common.{◌≡◌, [], drop}
use Rattle.check_protocol.specs.Observed.{gathered}
use Rattle.check_protocol.proofs.records.observed.Given as goal

abbrev pub invariant-loop-labelled : goal.invariant-loop-labelled
invariant-loop-labelled l = gathered (drop l.labelled-index l.past) l.found ≡ gathered l.past []
