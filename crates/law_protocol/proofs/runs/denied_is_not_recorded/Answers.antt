use Rattle.law_protocol.proofs.runs.denied_is_not_recorded.Goals as goal
use Rattle.law_protocol.proofs.Times.{denied_never_recorded}

pub returns : goal.returns
returns c = λ r t denied. denied_never_recorded r.plan r.places r.opening r.past r.moments t r.run denied
