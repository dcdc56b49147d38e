use Rattle.law_protocol.proofs.runs.stood_before.Goals as goal
use Rattle.std.proofs.Common.{◌∷◌}
use Rattle.law_protocol.proofs.Times.{front_run, stood_before}

pub returns : goal.returns
returns c = λ e t k p. stood_before e.plan e.places e.opening e.past e.event e.moments e.after t p.ks k p.word (front_run e.plan e.places e.opening e.later (e.event ∷ e.past) e.more (e.after ∷ e.moments) e.even e.run) p.prepares p.among p.done
