use Rattle.law_runs.proofs.Steps.{execution_about}
use Rattle.law_runs.proofs.laws.calls_are_of_the_catalog.Goals as goal

pub returns : goal.returns
returns c = λ x. execution_about x.script x.events x.playable x.execution
