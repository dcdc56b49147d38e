use Rattle.law_clients.proofs.Commit.{commit_turn}
use Rattle.law_clients.proofs.turns.commit_turn.Goals as goal

pub returns : goal.returns
returns c = λ k r. commit_turn k.plan k.past k.sys r.call r.work r.stage (record { ok = k.ok; at = r.commits }) r.replies
