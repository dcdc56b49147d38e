use Rattle.std.proofs.Common.{length}
use Rattle.check_answers.proofs.counts.+removals.Given as goal

abbrev pub decreases-removals : goal.decreases-removals
decreases-removals l = length l.calls.now
