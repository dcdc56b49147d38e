use Rattle.law_clients.proofs.Replies.{replies}
use Rattle.law_clients.proofs.sessions.replies_lead_on.Goals as goal

pub returns : goal.returns
returns c = replies
