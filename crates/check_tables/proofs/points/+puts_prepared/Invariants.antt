use Rattle.std.proofs.Common.{length}
use Rattle.check_tables.proofs.points.+puts_prepared.Given as goal

abbrev pub decreases-puts_prepared : goal.decreases-puts_prepared
decreases-puts_prepared l = length l.puts.now
