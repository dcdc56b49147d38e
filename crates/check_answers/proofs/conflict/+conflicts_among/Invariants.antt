use Rattle.check_answers.proofs.conflict.+conflicts_among.Given as goal

abbrev pub decreases-conflicts_among : goal.decreases-conflicts_among
decreases-conflicts_among l = l.count
