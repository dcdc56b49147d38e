use Rattle.check_answers.proofs.misfit.+any_misfit_of.Given as goal

abbrev pub decreases-any_misfit_of : goal.decreases-any_misfit_of
decreases-any_misfit_of l = l.count
