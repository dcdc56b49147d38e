use Rattle.law_protocol.proofs.explained.unresolved_is_prepared.Goals as goal
use Rattle.law_protocol.proofs.Moments.{unresolved_at}

pub returns : goal.returns
returns c = λ r d n. unresolved_at r.labelled r.moments d.catalog n r.run d.apart
