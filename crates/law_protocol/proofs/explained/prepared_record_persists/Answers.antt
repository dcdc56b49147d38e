use Rattle.law_protocol.proofs.explained.prepared_record_persists.Goals as goal
use Rattle.law_protocol.proofs.Moments.{lies_at}

pub returns : goal.returns
returns c = λ r d n. lies_at r.labelled r.moments d.catalog n r.run d.apart
