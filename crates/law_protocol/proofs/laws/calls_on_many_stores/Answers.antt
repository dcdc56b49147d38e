use Rattle.law_protocol.proofs.Calls.{called}
use Rattle.law_protocol.proofs.laws.calls_on_many_stores.Goals as goal

pub returns : goal.returns
returns c = record { called = called }
