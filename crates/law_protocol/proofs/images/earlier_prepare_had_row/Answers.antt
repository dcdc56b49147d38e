use Rattle.law_protocol.proofs.images.earlier_prepare_had_row.Goals as goal
use Rattle.law_protocol.proofs.Times.{whole_of}

pub returns : goal.returns
returns c = λ r. (whole_of r.plan r.places r.opening r.past r.moments r.run).all.one.earlier
