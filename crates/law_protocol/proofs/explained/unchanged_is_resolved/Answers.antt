use Rattle.law_protocol.proofs.explained.unchanged_is_resolved.Goals as goal
use Rattle.law_protocol.proofs.Current.{unchanged_at}

pub returns : goal.returns
returns c = λ r d. unchanged_at r.plan r.places r.opening r.labelled r.moments d.catalog r.run d.apart
