use Rattle.law_answers.specs.Turns.{TextWithCauses}
use Rattle.law_answers.proofs.Whole.{takes_all}
use Rattle.law_answers.proofs.texts.causes_of_text.Goals as goal

pub returns : goal.returns
returns x = λ (t : TextWithCauses). takes_all t.catalog t.taken t.events t.gated t.causes
