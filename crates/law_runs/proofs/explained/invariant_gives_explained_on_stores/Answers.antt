use Rattle.law_runs.proofs.Explains.{invariant_is_explained}
use Rattle.law_runs.proofs.explained.invariant_gives_explained_on_stores.Goals as goal

pub returns : goal.returns
returns c = invariant_is_explained
