use Rattle.law_protocol.proofs.rows.recorded_is_put.Goals as goal
use Rattle.law_protocol.specs.Runs.{history_of, contents_of_run}
use Rattle.law_protocol.proofs.Times.{whole_of}
use Rattle.law_protocol.proofs.Derived.{recorded_is_put}

pub returns : goal.returns
returns c = λ r. recorded_is_put r.plan r.places (history_of r) r.past (contents_of_run r) (whole_of r.plan r.places r.opening r.past r.moments r.run)
