use Rattle.law_clients.proofs.SessionCalls.{called}
use Rattle.law_clients.proofs.sessions.calls_are_local.Goals as goal

pub returns : goal.returns
returns c = λ s. called s.places s.store s.request s.how s.reply s.old s.new s.is
