use Rattle.law_runs.proofs.Steps.{execution_caused}
use Rattle.law_runs.proofs.laws.answers_have_causes.Goals as goal

pub returns : goal.returns
returns c = λ x. (execution_caused x.script x.events x.playable x.execution).caused
