use Rattle.std.proofs.Common.{length}
use Rattle.check_answers.proofs.full.+without_all_counted.Given as goal

abbrev pub decreases-without_all_counted : goal.decreases-without_all_counted
decreases-without_all_counted l = length l.inside.now
