use Rattle.std.proofs.Common.{length}
use Rattle.check_answers.proofs.commit.+is_through_end.Given as goal

abbrev pub decreases-is_through_end : goal.decreases-is_through_end
decreases-is_through_end l = length l.all.now
