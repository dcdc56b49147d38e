use Rattle.law_answers.proofs.Whole.{starts_all}
use Rattle.law_answers.proofs.ending.starts.Goals as goal

pub returns : goal.returns
returns x = λ catalog states fresh. starts_all catalog states fresh
