use Rattle.law_clients.proofs.Bodies.{access_agrees}
use Rattle.law_clients.proofs.statements.reads_observe_rows.Goals as goal

pub returns : goal.returns
returns c = access_agrees
