use Rattle.law_protocol.proofs.rows.rows_final.Goals as goal
use Rattle.law_protocol.proofs.Times.{rows_final}

pub returns : goal.returns
returns c = λ r. rows_final r.plan r.places r.opening r.later r.past r.more r.moments r.even r.run
