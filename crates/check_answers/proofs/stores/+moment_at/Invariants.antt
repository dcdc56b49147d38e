use Rattle.std.proofs.Common.{length}
use Rattle.check_answers.proofs.stores.+moment_at.Given as goal

abbrev pub decreases-moment_at : goal.decreases-moment_at
decreases-moment_at l = length l.moments.now
