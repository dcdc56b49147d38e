use Rattle.law_protocol.proofs.rows.prepared_persists.Goals as goal
use Rattle.law_protocol.specs.Runs.{history_of, contents_of_run}
use Rattle.law_protocol.proofs.Times.{whole_of}
use Rattle.law_protocol.proofs.Derived.{prepared_stay}

pub returns : goal.returns
returns c = λ r. prepared_stay r.plan r.places (history_of r) r.past (contents_of_run r) (whole_of r.plan r.places r.opening r.past r.moments r.run)
