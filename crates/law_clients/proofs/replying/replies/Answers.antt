use Rattle.sdb_client.proofs.Public.{step_of_reply}
use Rattle.law_clients.specs.Turns.{CallReplied, ReplyInRun}
use Rattle.law_clients.proofs.Replied.{replies_so}
use Rattle.law_clients.proofs.replying.replies.Goals as goal

pub returns : goal.returns
returns x = λ (i : ReplyInRun). let r : CallReplied = i.replied in
    replies_so i.current i.invariant r.call r.of_data.is r.called r.of_data.apart (step_of_reply (r.states r.call.client).client r.call.request r.call.reply r.call.now r.called.waiting.pending r.result r.after r.answered)
