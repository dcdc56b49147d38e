use Rattle.law_clients.proofs.InvariantEnds.{invariant_is_read_sets}
use Rattle.law_clients.proofs.invariant.invariant_gives_read_sets.Goals as goal

pub returns : goal.returns
returns c = λ p. invariant_is_read_sets p.catalog p.fit p.events p.sys p.doing p.running
