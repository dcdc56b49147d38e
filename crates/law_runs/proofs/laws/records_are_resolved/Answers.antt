use Rattle.law_answers.proofs.Public.{all_resolved, answered_seen}
use Rattle.law_runs.proofs.Steps.{execution_caused}
use Rattle.law_runs.proofs.laws.records_are_resolved.Goals as goal

pub returns : goal.returns
returns c = λ x follows. all_resolved x.events (execution_caused x.script x.events x.playable x.execution).rolled (answered_seen x.script x.events follows)
