use Rattle.law_answers.proofs.PathCalls.{made_none, made_more}
use Rattle.law_answers.proofs.Laws.{asks_on}
use Rattle.law_answers.proofs.commit_paths.made.Goals as goal

pub returns : goal.returns
returns c = record { starts = made_none; steps = made_more; asks = asks_on }
