use Rattle.law_answers.proofs.Whole.{explained}
use Rattle.law_answers.proofs.ending.answers_are_explained.Goals as goal

pub returns : goal.returns
returns x = λ catalog events now states ex. explained catalog events now states ex
