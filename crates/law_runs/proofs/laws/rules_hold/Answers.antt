use Rattle.law_runs.proofs.Steps.{execution_linked}
use Rattle.law_runs.proofs.laws.rules_hold.Goals as goal

pub returns : goal.returns
returns c = λ x. execution_linked x.script x.events x.playable x.execution
