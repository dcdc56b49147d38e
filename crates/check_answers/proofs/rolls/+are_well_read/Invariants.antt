use Rattle.std.proofs.Common.{length}
use Rattle.check_answers.proofs.rolls.+are_well_read.Given as goal

abbrev pub decreases-are_well_read : goal.decreases-are_well_read
decreases-are_well_read l = length l.reads.now
