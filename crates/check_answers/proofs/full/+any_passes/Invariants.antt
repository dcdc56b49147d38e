use Rattle.check_answers.proofs.full.+any_passes.Given as goal

abbrev pub decreases-any_passes : goal.decreases-any_passes
decreases-any_passes l = l.count
