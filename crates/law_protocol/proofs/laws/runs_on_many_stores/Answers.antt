use Rattle.law_protocol.proofs.SerialOnStores.{run_relocated}
use Rattle.law_protocol.proofs.laws.runs_on_many_stores.Goals as goal

pub returns : goal.returns
returns c = record { run = run_relocated }
