use Rattle.law_clients.proofs.Wholes.{order_runs}
use Rattle.law_clients.proofs.order.order_runs_whole.Goals as goal

pub returns : goal.returns
returns c = λ r. let l = r.run in order_runs r.catalog r.fit r.ran r.order l.run r.ordered r.did r.fitting
