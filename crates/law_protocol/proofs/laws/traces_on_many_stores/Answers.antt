use Rattle.law_protocol.proofs.Traces.{traced}
use Rattle.law_protocol.proofs.laws.traces_on_many_stores.Goals as goal

pub returns : goal.returns
returns c = record { traced = traced }
