use Rattle.law_protocol.proofs.Single.{single_of}
use Rattle.law_protocol.proofs.laws.traces_on_one_store.Goals as goal

pub returns : goal.returns
returns c = record { traced = single_of }
