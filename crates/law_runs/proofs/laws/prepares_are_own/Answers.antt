use Rattle.law_runs.proofs.OwnPrepares.{execution_own}
use Rattle.law_runs.proofs.laws.prepares_are_own.Goals as goal

pub returns : goal.returns
returns c = λ x. execution_own x.script x.events x.playable x.execution
