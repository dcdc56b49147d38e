use Rattle.std.proofs.Common.{length}
use Rattle.check_answers.proofs.answer.+are_projected.Given as goal

abbrev pub decreases-are_projected : goal.decreases-are_projected
decreases-are_projected l = length l.rows.now
