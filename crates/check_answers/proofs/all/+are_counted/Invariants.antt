use Rattle.std.proofs.Common.{length}
use Rattle.check_answers.proofs.all.+are_counted.Given as goal

abbrev pub decreases-are_counted : goal.decreases-are_counted
decreases-are_counted l = length l.executed.now
