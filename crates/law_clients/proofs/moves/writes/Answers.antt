use Rattle.law_clients.proofs.Quiet.{writes}
use Rattle.law_clients.proofs.moves.writes.Goals as goal

pub returns : goal.returns
returns c = λ k o changes. writes k.plan k.past k.sys o.client o.id o.seen changes (record { ok = k.ok; at = o.is_open })
