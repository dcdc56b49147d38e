use Rattle.std.proofs.Common.{length}
use Rattle.check_answers.proofs.all.+broken.Given as goal

abbrev pub decreases-broken : goal.decreases-broken
decreases-broken l = length l.events.now
