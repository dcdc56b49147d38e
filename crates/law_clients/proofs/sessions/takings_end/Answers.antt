use Rattle.law_clients.proofs.Working.{takings_lead}
use Rattle.law_clients.proofs.sessions.takings_end.Goals as goal

pub returns : goal.returns
returns c = takings_lead
