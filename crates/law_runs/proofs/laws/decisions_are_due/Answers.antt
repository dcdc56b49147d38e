use Rattle.law_runs.proofs.GivesUp.{execution_due}
use Rattle.law_runs.proofs.laws.decisions_are_due.Goals as goal

pub returns : goal.returns
returns c = λ x. execution_due x.script x.events x.playable x.execution
