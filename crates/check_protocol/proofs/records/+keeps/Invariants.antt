use Rattle.std.proofs.Common.{length}
use Rattle.check_protocol.proofs.records.+keeps.Given as goal

abbrev pub decreases-keeps : goal.decreases-keeps
decreases-keeps l = length l.kept.now
