use Rattle.law_clients.proofs.RowsFit.{is_fitting, answers_on}
use Rattle.law_clients.proofs.fitting.plans_on_fitting_tables.Goals as goal

pub returns : goal.returns
returns c = record {
  fitting = is_fitting;
  answers = λ p. answers_on p.catalog p.plan p.seen p.is p.named p.asked p.accepted p.literals p.finished;
}
