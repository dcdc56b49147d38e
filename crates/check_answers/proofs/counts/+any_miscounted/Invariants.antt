use Rattle.check_answers.proofs.counts.+any_miscounted.Given as goal

abbrev pub decreases-any_miscounted : goal.decreases-any_miscounted
decreases-any_miscounted l = l.count
