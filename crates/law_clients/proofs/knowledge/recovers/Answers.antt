use Rattle.law_clients.proofs.Reading.{recover_lawful}
use Rattle.law_clients.proofs.Rows.{recover_kept}
use Rattle.law_clients.proofs.knowledge.recovers.Goals as goal

pub returns : goal.returns
returns c = record {
  may = λ plan past r answered. recover_lawful plan past r.call.client r.rec r.meta r.phase r.call.store r.call.request r.call.how r.call.reply answered r.ok r.replies.asked;
  knows = λ past r answered. recover_kept past r.call.client r.rec r.meta r.phase r.call.now r.call.store r.call.request r.call.how r.call.reply answered r.ok r.replies.asked r.replies.can r.replies.moment;
}
