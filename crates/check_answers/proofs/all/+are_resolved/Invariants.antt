use Rattle.std.proofs.Common.{length}
use Rattle.check_answers.proofs.all.+are_resolved.Given as goal

abbrev pub decreases-are_resolved : goal.decreases-are_resolved
decreases-are_resolved l = length l.executed.now
