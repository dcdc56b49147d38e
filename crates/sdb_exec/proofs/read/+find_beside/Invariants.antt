use Rattle.std.proofs.Common.{length}
use Rattle.sdb_exec.proofs.read.+find_beside.Given as goal

abbrev pub decreases-find_beside : goal.decreases-find_beside
decreases-find_beside l = length l.names.now
