use Rattle.law_answers.specs.Turns.{ReplyWithCauses}
use Rattle.law_answers.proofs.Whole.{replies_all}
use Rattle.law_answers.proofs.replies.replies.Goals as goal

pub returns : goal.returns
returns x = λ (r : ReplyWithCauses). replies_all r.catalog r.replied r.events r.stored r.causes
