use Rattle.std.proofs.Common.{length}
use Rattle.check_protocol.proofs.rolls.+roll_each.Given as goal

abbrev pub decreases-roll_each : goal.decreases-roll_each
decreases-roll_each l = length l.keys.now
