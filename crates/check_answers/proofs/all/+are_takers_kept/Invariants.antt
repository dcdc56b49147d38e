use Rattle.std.proofs.Common.{length}
use Rattle.check_answers.proofs.all.+are_takers_kept.Given as goal

abbrev pub decreases-are_takers_kept : goal.decreases-are_takers_kept
decreases-are_takers_kept l = length l.some.now
