use Rattle.std.proofs.Common.{length}
use Rattle.check_answers.proofs.caused.+are_well_answered.Given as goal

abbrev pub decreases-are_well_answered : goal.decreases-are_well_answered
decreases-are_well_answered l = length l.executed.now
