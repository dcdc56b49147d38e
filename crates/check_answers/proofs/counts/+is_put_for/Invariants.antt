use Rattle.std.proofs.Common.{length}
use Rattle.check_answers.proofs.counts.+is_put_for.Given as goal

abbrev pub decreases-is_put_for : goal.decreases-is_put_for
decreases-is_put_for l = length l.calls.now
