use Rattle.law_clients.proofs.Rows.{settle_ok, read_kept}
use Rattle.law_clients.proofs.knowledge.rows_settle.Goals as goal

pub returns : goal.returns
returns c = record {
  first = λ past a images left observed. settle_ok past a images left observed.each_image observed.each_left observed.place;
  next = λ past a r answered. read_kept past a r.call.client r.stage r.call.now r.call.store r.call.request r.call.how r.call.reply answered r.of_data r.ok r.replies.asked r.replies.can r.replies.moment;
}
