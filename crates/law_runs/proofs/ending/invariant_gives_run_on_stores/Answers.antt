use Rattle.law_runs.proofs.Ended.{invariant_is_run_on_stores}
use Rattle.law_runs.proofs.ending.invariant_gives_run_on_stores.Goals as goal

pub returns : goal.returns
returns c = invariant_is_run_on_stores
