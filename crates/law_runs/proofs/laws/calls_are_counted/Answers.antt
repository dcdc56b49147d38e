use Rattle.law_answers.proofs.Public.{all_counted, seen_no_faults}
use Rattle.law_runs.proofs.Steps.{execution_caused}
use Rattle.law_runs.proofs.laws.calls_are_counted.Goals as goal

pub returns : goal.returns
returns c = λ x follows. all_counted x.script.catalog x.events (execution_caused x.script x.events x.playable x.execution).counted (seen_no_faults x.script x.events follows)
