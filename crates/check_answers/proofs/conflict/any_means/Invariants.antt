use Rattle.std.proofs.Common.{◌≡◌, drop}
use Rattle.std.specs.List.{list_any}
use Rattle.check_answers.specs.Tests.{means}
use Rattle.check_answers.proofs.conflict.any_means.Given as goal

abbrev pub invariant-loop-made : goal.invariant-loop-made
invariant-loop-made l = list_any (means l.calls l.key l.found) (drop l.made-index l.calls) ≡ list_any (means l.calls l.key l.found) l.calls
