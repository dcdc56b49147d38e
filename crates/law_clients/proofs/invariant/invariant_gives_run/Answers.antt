use Rattle.law_clients.proofs.InvariantEnds.{invariant_is_run}
use Rattle.law_clients.proofs.invariant.invariant_gives_run.Goals as goal

pub returns : goal.returns
returns c = invariant_is_run
