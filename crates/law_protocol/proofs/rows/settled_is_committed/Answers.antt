use Rattle.law_protocol.proofs.rows.settled_is_committed.Goals as goal
use Rattle.law_protocol.specs.Runs.{history_of}
use Rattle.law_protocol.proofs.Settled.{firm_of}
use Rattle.law_protocol.proofs.Times.{whole_of}

pub returns : goal.returns
returns c = λ r k b outside settled. let f = firm_of r.plan (history_of r) r.past k b (whole_of r.plan r.places r.opening r.past r.moments r.run).knows outside settled in (f.t, f.fits, f.writer, f.same)
