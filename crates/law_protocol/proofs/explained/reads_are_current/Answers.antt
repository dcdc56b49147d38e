use Rattle.law_protocol.proofs.explained.reads_are_current.Goals as goal
use Rattle.law_protocol.proofs.Current.{current_at}

pub returns : goal.returns
returns c = λ r d. current_at r.labelled r.moments d.catalog r.run d.apart
