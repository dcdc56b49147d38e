use Rattle.law_answers.proofs.Course.{puts_decision, goes_further, ends_well, commits_well}
use Rattle.law_answers.proofs.commit_paths.completes.Goals as goal

pub returns : goal.returns
returns c = record { decides = puts_decision; goes_on = goes_further; ends = ends_well; committed = commits_well }
