use Rattle.std.proofs.Common.{◌≡◌, drop}
use Rattle.std.specs.List.{list_any}
use Rattle.check_answers.specs.Tests.{found_aborted}
use Rattle.check_answers.proofs.commit.expired_among.Given as goal

abbrev pub invariant-loop-made : goal.invariant-loop-made
invariant-loop-made l = list_any (found_aborted l.calls l.row) (drop l.made-index l.calls) ≡ list_any (found_aborted l.calls l.row) l.calls
