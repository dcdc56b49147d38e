use Rattle.std.proofs.Common.{◌≡◌, drop}
use Rattle.std.specs.List.{list_any}
use Rattle.check_answers.specs.Tests.{has_sign}
use Rattle.check_answers.proofs.sign.any.Given as goal

abbrev pub invariant-loop-made : goal.invariant-loop-made
invariant-loop-made l = list_any (has_sign l.sign) (drop l.made-index l.calls) ≡ list_any (has_sign l.sign) l.calls
