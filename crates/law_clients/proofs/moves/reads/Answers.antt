use Rattle.law_clients.proofs.Quiet.{asks, read_set, gives_up}
use Rattle.law_clients.proofs.moves.reads.Goals as goal

pub returns : goal.returns
returns c = record {
  asks = λ k o a. asks k.plan k.past k.sys o.client o.id o.seen a (record { ok = k.ok; at = o.is_open });
  read_set = λ k images r. read_set k.plan k.past k.sys r.client r.id r.seen r.asked images (record { ok = k.ok; at = r.reads });
  gives_up = λ k s r. gives_up k.plan k.past k.sys r.client r.id r.seen r.asked s (record { ok = k.ok; at = r.reads });
}
