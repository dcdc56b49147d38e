use Rattle.std.proofs.Common.{length}
use Rattle.check_answers.proofs.rolls.+are_well_left.Given as goal

abbrev pub decreases-are_well_left : goal.decreases-are_well_left
decreases-are_well_left l = length l.rows.now
