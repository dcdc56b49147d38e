use Rattle.sdb_client.proofs.Public.{step_of_reply, step_of_text}
use Rattle.law_clients.proofs.Fitted.{replies_fitted, takes_fitted}
use Rattle.law_clients.proofs.keeping.clients_stay_well_typed.Goals as goal

pub returns : goal.returns
returns x = record {
  takes = λ q text c d result idle fitted h. takes_fitted q text c idle fitted result d (step_of_text q text c result d h);
  replies = λ catalog r fitted. replies_fitted catalog r.before r.request r.reply r.now fitted r.result r.after (step_of_reply r.before r.request r.reply r.now r.pending r.result r.after r.answered);
}
