use Rattle.std.proofs.Common.{◌≡◌, drop}
use Rattle.std.specs.Prelude.{find}
use Rattle.check_protocol.specs.Started.{has_sign}
use Rattle.check_protocol.proofs.labelled.last.Given as goal

abbrev pub invariant-loop-labelled : goal.invariant-loop-labelled
invariant-loop-labelled l = find (has_sign l.sign) (drop l.labelled-index l.past) ≡ find (has_sign l.sign) l.past
