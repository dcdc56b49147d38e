use Rattle.sdb_client.proofs.Public.{step_of_reply, step_of_text}
use Rattle.law_clients.proofs.ClientIn.{asks_in, replies_in, takes_in}
use Rattle.law_clients.proofs.about.calls_are_about_tables.Goals as goal

pub returns : goal.returns
returns x = record {
  starts = λ catalog number. record { txn = tt; vacuum = tt };
  takes = λ q text c d result idle of h. takes_in q text c d result idle of (step_of_text q text c result d h);
  replies = λ catalog r can of. replies_in catalog r.before r.request r.reply r.now can of (step_of_reply r.before r.request r.reply r.now r.pending r.result r.after r.answered);
  asked = asks_in;
}
