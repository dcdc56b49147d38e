use Rattle.law_protocol.specs.Explained.{newest_first}
use Rattle.law_clients.proofs.Ends.{run_told}
use Rattle.law_clients.proofs.order.run_is_serial.Goals as goal

pub returns : goal.returns
returns c = λ r. let l = r.run in run_told r.catalog r.fit l.plan l.places l.opening l.labelled (newest_first l.moments) r.ran r.order l.run r.faithful r.ordered r.ids r.fitting r.executed
