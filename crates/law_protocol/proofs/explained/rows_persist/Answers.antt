use Rattle.law_protocol.proofs.explained.rows_persist.Goals as goal
use Rattle.law_protocol.proofs.Moments.{rows_at}

pub returns : goal.returns
returns c = λ r early late. rows_at r.labelled r.moments early late r.run
