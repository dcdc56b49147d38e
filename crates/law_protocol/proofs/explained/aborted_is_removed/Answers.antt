use Rattle.law_protocol.proofs.explained.aborted_is_removed.Goals as goal
use Rattle.law_protocol.proofs.Moments.{gone_at}

pub returns : goal.returns
returns c = λ r d n. gone_at r.labelled r.moments d.catalog n r.run d.apart
