use Rattle.law_protocol.proofs.runs.answered_is_recorded.Goals as goal
use Rattle.law_protocol.proofs.Times.{told_recorded}

pub returns : goal.returns
returns c = λ r t answered. told_recorded r.plan r.places r.opening r.past r.moments t r.run answered
