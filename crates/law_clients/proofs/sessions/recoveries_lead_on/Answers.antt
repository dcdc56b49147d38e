use Rattle.law_clients.proofs.Recovers.{recovers}
use Rattle.law_clients.proofs.sessions.recoveries_lead_on.Goals as goal

pub returns : goal.returns
returns c = λ r. recovers r.catalog r.apart r.found r.meta r.now r.time r.g r.h r.phase r.request r.reply r.sound r.alone r.asked r.called
