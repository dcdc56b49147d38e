use Rattle.std.proofs.Common.{length}
use Rattle.check_protocol.proofs.rules.+put_writes.Given as goal

abbrev pub decreases-put_writes : goal.decreases-put_writes
decreases-put_writes l = length l.keys.now
