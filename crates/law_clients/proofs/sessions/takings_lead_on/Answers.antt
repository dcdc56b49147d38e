use Rattle.law_clients.proofs.Takings.{takes}
use Rattle.law_clients.proofs.sessions.takings_lead_on.Goals as goal

pub returns : goal.returns
returns c = takes
