use Rattle.law_clients.proofs.Begin.{begins}
use Rattle.law_clients.proofs.knowledge.nothing_happened.Goals as goal

pub returns : goal.returns
returns c = begins
