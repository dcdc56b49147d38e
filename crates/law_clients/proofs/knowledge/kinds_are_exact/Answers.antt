use Rattle.law_clients.proofs.Machine.{kind_is}
use Rattle.law_clients.proofs.knowledge.kinds_are_exact.Goals as goal

pub returns : goal.returns
returns c = kind_is
