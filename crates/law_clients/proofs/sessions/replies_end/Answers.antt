use Rattle.law_clients.proofs.Working.{replies_lead, work_is_pending}
use Rattle.law_clients.proofs.sessions.replies_end.Goals as goal

pub returns-clause-replies : goal.returns-clause-replies
returns-clause-replies c = replies_lead

pub returns-clause-busy : goal.returns-clause-busy
returns-clause-busy c = work_is_pending
