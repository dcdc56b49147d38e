use Rattle.law_protocol.proofs.real_time.answered_was_decided.Goals as goal
use Rattle.law_protocol.proofs.ModelTime.{told_decided}

pub returns-clause-recorded : goal.returns-clause-recorded
returns-clause-recorded c = λ r t n answered. (told_decided r.plan r.places r.opening r.past r.moments t n r.run answered).0

pub returns-clause-by_then : goal.returns-clause-by_then
returns-clause-by_then c = λ r t n answered. (told_decided r.plan r.places r.opening r.past r.moments t n r.run answered).1
