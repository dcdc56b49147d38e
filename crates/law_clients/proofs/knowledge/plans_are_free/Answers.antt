use Rattle.law_clients.proofs.Replan.{replanned}
use Rattle.law_clients.proofs.Take.{system_replanned}
use Rattle.law_clients.proofs.knowledge.plans_are_free.Goals as goal

pub returns : goal.returns
returns c = record { lawful = replanned; system = system_replanned }
