use Rattle.std.proofs.Common.{length}
use Rattle.check_answers.proofs.full.+without_all_found.Given as goal

abbrev pub decreases-without_all_found : goal.decreases-without_all_found
decreases-without_all_found l = length l.inside.now
