use Rattle.law_clients.proofs.Commits.{commits}
use Rattle.law_clients.proofs.sessions.commits_lead_on.Goals as goal

pub returns : goal.returns
returns c = λ r. commits r.catalog r.apart r.start r.sound r.work r.g r.h r.stage r.request r.reply r.alone r.asked r.called
