use Rattle.law_clients.proofs.Quiet.{stop_turn}
use Rattle.law_clients.proofs.turns.stop_turn.Goals as goal

pub returns : goal.returns
returns c = λ k c. stop_turn k.plan k.past k.sys c k.ok
