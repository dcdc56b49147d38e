use Rattle.check_answers.proofs.all.+are_observed_upto.Given as goal

abbrev pub decreases-are_observed_upto : goal.decreases-are_observed_upto
decreases-are_observed_upto l = l.count
