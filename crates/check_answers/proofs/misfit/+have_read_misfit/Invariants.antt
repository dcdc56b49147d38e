use Rattle.std.proofs.Common.{length}
use Rattle.check_answers.proofs.misfit.+have_read_misfit.Given as goal

abbrev pub decreases-have_read_misfit : goal.decreases-have_read_misfit
decreases-have_read_misfit l = length l.all.now
