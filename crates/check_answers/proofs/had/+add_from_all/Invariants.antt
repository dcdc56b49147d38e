use Rattle.std.proofs.Common.{length}
use Rattle.check_answers.proofs.had.+add_from_all.Given as goal

abbrev pub decreases-add_from_all : goal.decreases-add_from_all
decreases-add_from_all l = length l.bases.now
