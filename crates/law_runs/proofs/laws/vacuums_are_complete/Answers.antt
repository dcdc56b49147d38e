use Rattle.law_runs.proofs.Swept.{execution_sweeps}
use Rattle.law_runs.proofs.laws.vacuums_are_complete.Goals as goal

pub returns : goal.returns
returns c = λ x. execution_sweeps x.script x.events x.playable x.execution
