use Rattle.std.proofs.Common.{length}
use Rattle.check_answers.proofs.counts.+covered.Given as goal

abbrev pub decreases-covered : goal.decreases-covered
decreases-covered l = length l.calls.now
