use Rattle.law_clients.proofs.Agree.{rows_agree, dead_agrees}
use Rattle.law_clients.proofs.order.rows_agree.Goals as goal

pub returns : goal.returns
returns c = record {
  observed = λ r t d e m n. rows_agree r.plan r.places r.opening r.past r.moments t d e m n r.run;
  put = λ r t d m. dead_agrees r.plan r.places r.opening r.past r.moments t d m r.run;
}
