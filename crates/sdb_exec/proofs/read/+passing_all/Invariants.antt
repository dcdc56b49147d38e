use Rattle.std.proofs.Common.{length}
use Rattle.sdb_exec.proofs.read.+passing_all.Given as goal

abbrev pub decreases-passing_all : goal.decreases-passing_all
decreases-passing_all l = length l.tests.now
