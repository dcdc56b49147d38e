use Rattle.law_protocol.proofs.runs.point_is_last_prepare.Goals as goal
use Rattle.law_protocol.specs.Explained.{newest_first}
use Rattle.law_protocol.proofs.Points.{point_is_last}

pub returns : goal.returns
returns c = λ r t is. point_is_last r.plan r.places r.opening r.labelled (newest_first r.moments) t r.run is.fits is.accepted
