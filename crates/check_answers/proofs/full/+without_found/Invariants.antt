use Rattle.std.proofs.Common.{length}
use Rattle.check_answers.proofs.full.+without_found.Given as goal

abbrev pub decreases-without_found : goal.decreases-without_found
decreases-without_found l = length l.calls.now
