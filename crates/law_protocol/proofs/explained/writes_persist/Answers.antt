use Rattle.law_protocol.proofs.explained.writes_persist.Goals as goal
use Rattle.law_protocol.proofs.Current.{stand_at}

pub returns : goal.returns
returns c = λ r d. stand_at r.plan r.places r.opening r.labelled r.moments d.catalog r.run d.apart
