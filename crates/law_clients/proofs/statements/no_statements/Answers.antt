use Rattle.law_clients.proofs.Bodies.{body_begins}
use Rattle.law_clients.proofs.statements.no_statements.Goals as goal

pub returns : goal.returns
returns c = body_begins
