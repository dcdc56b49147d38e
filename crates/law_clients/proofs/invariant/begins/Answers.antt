use Rattle.law_clients.proofs.InvariantTurns.{going_begins}
use Rattle.law_clients.proofs.invariant.begins.Goals as goal

pub returns : goal.returns
returns c = λ p c text may. going_begins p.catalog p.fit p.events p.sys p.doing p.running c text may.rests may.begins may.none_run_vacuum
