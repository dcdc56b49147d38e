use Rattle.law_clients.proofs.Begin.{unused, untaken}
use Rattle.law_clients.proofs.knowledge.next_is_fresh.Goals as goal

pub returns : goal.returns
returns c = record { begun = unused; accepted = untaken }
