use Rattle.std.proofs.Common.{◌≡◌, drop}
use Rattle.std.specs.List.{list_any}
use Rattle.check_answers.specs.Tests.{observes_bad}
use Rattle.check_answers.proofs.bad.any_bad.Given as goal

abbrev pub invariant-loop-made : goal.invariant-loop-made
invariant-loop-made l = list_any (observes_bad l.key) (drop l.made-index l.calls) ≡ list_any (observes_bad l.key) l.calls
