use Rattle.law_runs.proofs.Explains.{invariant_is_accepted}
use Rattle.law_runs.proofs.explained.invariant_gives_transactional_on_stores.Goals as goal

pub returns : goal.returns
returns c = invariant_is_accepted
