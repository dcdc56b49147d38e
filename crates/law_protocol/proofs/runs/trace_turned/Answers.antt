use Rattle.law_protocol.proofs.runs.trace_turned.Goals as goal
use Rattle.law_protocol.proofs.Times.{traced_of}

pub returns-clause-traced : goal.returns-clause-traced
returns-clause-traced c = λ r. (traced_of r.places r.opening r.labelled r.moments r.end r.trace).0

pub returns-clause-end : goal.returns-clause-end
returns-clause-end c = λ r. (traced_of r.places r.opening r.labelled r.moments r.end r.trace).1
