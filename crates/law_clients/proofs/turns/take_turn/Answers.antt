use Rattle.law_clients.proofs.Take.{take_turn}
use Rattle.law_clients.proofs.turns.take_turn.Goals as goal

pub returns : goal.returns
returns c = λ k o text now. take_turn k.plan k.past k.sys o.client o.id o.seen now text (record { ok = k.ok; at = o.is_open })
