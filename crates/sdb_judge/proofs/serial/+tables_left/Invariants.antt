use Rattle.std.proofs.Common.{length}
use Rattle.sdb_judge.proofs.serial.+tables_left.Given as goal

abbrev pub decreases-tables_left : goal.decreases-tables_left
decreases-tables_left l = length l.order.now
