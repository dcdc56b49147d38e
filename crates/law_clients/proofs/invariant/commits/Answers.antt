use Rattle.law_clients.proofs.InvariantTurns.{going_commits}
use Rattle.law_clients.proofs.InvariantCalls.{going_commit_calls}
use Rattle.law_clients.proofs.invariant.commits.Goals as goal

pub returns : goal.returns
returns c = record {
  accepted = λ p q now. going_commits p.catalog p.fit p.events p.sys p.doing p.running q.client q.text q.id q.seen now q.is_open;
  calls = λ p r. going_commit_calls p.catalog p.fit p.events p.sys p.doing p.running r.call.client r.call.store r.call.request r.call.how r.call.reply r.call.now r.work r.stage r.commits r.replies;
}
