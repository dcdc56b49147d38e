use Rattle.law_clients.proofs.Commit.{starved_commit}
use Rattle.law_clients.proofs.moves.starves.Goals as goal

pub returns : goal.returns
returns c = λ k c p s commits. starved_commit k.plan k.past k.sys c p s (record { ok = k.ok; at = commits })
