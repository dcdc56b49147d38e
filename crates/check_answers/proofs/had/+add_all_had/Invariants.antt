use Rattle.std.proofs.Common.{length}
use Rattle.check_answers.proofs.had.+add_all_had.Given as goal

abbrev pub decreases-add_all_had : goal.decreases-add_all_had
decreases-add_all_had l = length l.keys.now
