use Rattle.std.proofs.Common.{length}
use Rattle.sdb_judge.proofs.moments.+add_moments.Given as goal

abbrev pub decreases-add_moments : goal.decreases-add_moments
decreases-add_moments l = length l.events.now
