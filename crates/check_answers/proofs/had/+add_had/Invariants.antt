use Rattle.std.proofs.Common.{length}
use Rattle.check_answers.proofs.had.+add_had.Given as goal

abbrev pub decreases-add_had : goal.decreases-add_had
decreases-add_had l = length l.turns.now
