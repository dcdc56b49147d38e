use Rattle.std.proofs.Common.{length}
use Rattle.check_protocol.proofs.lawful.+all_follow.Given as goal

abbrev pub decreases-all_follow : goal.decreases-all_follow
decreases-all_follow l = length l.past.now
