use Rattle.law_protocol.proofs.real_time.answers_are_true.Goals as goal
use Rattle.law_protocol.specs.Explained.{newest_first}
use Rattle.law_protocol.proofs.ModelTime.{answers_true}

pub returns : goal.returns
returns c = λ r faithful. answers_true r.plan r.places r.opening r.labelled (newest_first r.moments) r.run faithful
