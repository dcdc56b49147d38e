use Rattle.std.proofs.Common.{length}
use Rattle.check_answers.proofs.misfit.+any_misfit.Given as goal

abbrev pub decreases-any_misfit : goal.decreases-any_misfit
decreases-any_misfit l = length l.some.now
