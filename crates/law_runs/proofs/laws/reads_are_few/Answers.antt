use Rattle.law_runs.proofs.ReadsOnce.{execution_few}
use Rattle.law_runs.proofs.laws.reads_are_few.Goals as goal

pub returns : goal.returns
returns c = λ x. execution_few x.script x.events x.playable x.execution
