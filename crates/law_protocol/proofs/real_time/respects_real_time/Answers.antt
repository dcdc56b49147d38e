use Rattle.law_protocol.proofs.real_time.respects_real_time.Goals as goal
use Rattle.law_protocol.specs.Explained.{newest_first}
use Rattle.law_protocol.proofs.ModelTime.{keeps_real_time as law}

pub returns : goal.returns
returns c = λ r order faithful o. law r.plan r.places r.opening r.labelled (newest_first r.moments) order r.run faithful o
