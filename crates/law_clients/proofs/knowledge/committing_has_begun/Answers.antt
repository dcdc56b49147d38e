use Rattle.law_clients.proofs.Begin.{accepted_begun}
use Rattle.law_clients.proofs.knowledge.committing_has_begun.Goals as goal

pub returns : goal.returns
returns c = accepted_begun
