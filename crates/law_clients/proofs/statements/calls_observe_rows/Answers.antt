use Rattle.law_clients.proofs.ReadRecords.{read_made}
use Rattle.law_clients.proofs.statements.calls_observe_rows.Goals as goal

pub returns : goal.returns
returns c = λ r m is. let x = r.call in read_made r.made m r.asked r.stage x.now x.request x.reply r.observed r.replies.asked r.replies.can is
