use Rattle.law_clients.proofs.Wholes.{notes_left}
use Rattle.law_clients.proofs.order.read_set_was_recorded.Goals as goal

pub returns : goal.returns
returns c = λ r s. notes_left r.plan r.places r.opening r.past r.moments s r.run
