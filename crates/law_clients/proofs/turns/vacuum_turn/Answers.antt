use Rattle.law_clients.proofs.Calls.{vacuum_turn}
use Rattle.law_clients.proofs.turns.vacuum_turn.Goals as goal

pub returns : goal.returns
returns c = λ k r. vacuum_turn k.plan k.past k.sys r.call r.stage r.answered (record { ok = k.ok; at = r.vacuums }) r.replies r.other
