use Rattle.law_clients.proofs.Landings.{land_turn}
use Rattle.law_clients.proofs.turns.land_turn.Goals as goal

pub returns : goal.returns
returns c = λ k l. land_turn k.plan k.past k.sys l.number l.store l.request l.how l.reply l.action k.ok l.was
