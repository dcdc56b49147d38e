use Rattle.std.proofs.Common.{length}
use Rattle.check_tables.proofs.points.+from_begin.Given as goal

abbrev pub decreases-from_begin : goal.decreases-from_begin
decreases-from_begin l = length l.executed.now
