use Rattle.law_runs.proofs.Belonging.{execution_belongs}
use Rattle.law_runs.proofs.laws.calls_are_of_statements.Goals as goal

pub returns : goal.returns
returns c = λ x. execution_belongs x.script x.events x.playable x.execution
