use Rattle.law_runs.proofs.OnStores.{points_on_stores, sound_on_stores}
use Rattle.law_runs.proofs.stores.invariant_gives_end_on_stores.Goals as goal

pub returns : goal.returns
returns c = record {
  points = points_on_stores;
  sound = sound_on_stores;
}
