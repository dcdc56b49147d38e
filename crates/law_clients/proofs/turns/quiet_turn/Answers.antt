use Rattle.law_clients.proofs.Quiet.{quiet_turn, leave_turn}
use Rattle.law_clients.proofs.turns.quiet_turn.Goals as goal

pub returns : goal.returns
returns c = record {
  stays = λ k e. quiet_turn k.plan k.past k.sys e k.ok;
  ends = λ k o e. leave_turn k.plan k.past k.sys o.client o.id o.seen e (record { ok = k.ok; at = o.is_open });
}
