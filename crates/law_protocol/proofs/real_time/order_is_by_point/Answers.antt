use Rattle.law_protocol.proofs.real_time.order_is_by_point.Goals as goal
use Rattle.law_protocol.proofs.ModelTime.{ordered_of}

pub returns : goal.returns
returns c = λ r order faithful o fit. ordered_of r.labelled order r.run faithful o fit
