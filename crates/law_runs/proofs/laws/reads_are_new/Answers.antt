use Rattle.law_runs.proofs.NewRuns.{execution_new}
use Rattle.law_runs.proofs.laws.reads_are_new.Goals as goal

pub returns : goal.returns
returns c = λ x. execution_new x.script x.events x.playable x.execution
