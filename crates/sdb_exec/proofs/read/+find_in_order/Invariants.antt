use Rattle.std.proofs.Common.{length}
use Rattle.sdb_exec.proofs.read.+find_in_order.Given as goal

abbrev pub decreases-find_in_order : goal.decreases-find_in_order
decreases-find_in_order l = length l.orders.now
