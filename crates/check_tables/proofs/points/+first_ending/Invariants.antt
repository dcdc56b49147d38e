use Rattle.std.proofs.Common.{length}
use Rattle.check_tables.proofs.points.+first_ending.Given as goal

abbrev pub decreases-first_ending : goal.decreases-first_ending
decreases-first_ending l = length l.executed.now
