use Rattle.std.proofs.Common.{length}
use Rattle.check_answers.proofs.rolls.+any_rolled.Given as goal

abbrev pub decreases-any_rolled : goal.decreases-any_rolled
decreases-any_rolled l = length l.looks.now
