use Rattle.law_clients.proofs.Calls.{read_turn, read_ends_turn}
use Rattle.law_clients.proofs.turns.read_turn.Goals as goal

pub returns : goal.returns
returns c = record {
  goes_on = λ k r. read_turn k.plan k.past k.sys r.call r.id r.seen r.asked r.stage r.answered (record { ok = k.ok; at = r.reads }) r.replies r.other;
  ends = λ k r. read_ends_turn k.plan k.past k.sys r.call r.id r.seen r.asked r.stage r.answered (record { ok = k.ok; at = r.reads }) r.replies r.other;
}
