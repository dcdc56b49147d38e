use Rattle.law_protocol.proofs.explained.committed_recorded.Goals as goal
use Rattle.law_protocol.proofs.Moments.{committed_at}

pub returns : goal.returns
returns c = λ r d n. committed_at r.labelled r.moments d.catalog n r.run d.apart
