use Rattle.check_answers.proofs.commit.+is_among_commits.Given as goal

abbrev pub decreases-is_among_commits : goal.decreases-is_among_commits
decreases-is_among_commits l = l.count
