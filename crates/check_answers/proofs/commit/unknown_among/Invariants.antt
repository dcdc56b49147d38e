use Rattle.std.proofs.Common.{◌≡◌, drop}
use Rattle.std.specs.List.{list_any}
use Rattle.check_answers.specs.Tests.{is_lost_put}
use Rattle.check_answers.proofs.commit.unknown_among.Given as goal

abbrev pub invariant-loop-put : goal.invariant-loop-put
invariant-loop-put l = list_any (is_lost_put l.calls l.row) (drop l.put-index l.calls) ≡ list_any (is_lost_put l.calls l.row) l.calls
