use Rattle.std.proofs.Common.{length}
use Rattle.check_answers.proofs.caused.+are_takers_well.Given as goal

abbrev pub decreases-are_takers_well : goal.decreases-are_takers_well
decreases-are_takers_well l = length l.some.now
