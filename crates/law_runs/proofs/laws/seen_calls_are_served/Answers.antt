use Rattle.law_runs.proofs.Completing.{execution_serves}
use Rattle.law_runs.proofs.laws.seen_calls_are_served.Goals as goal

pub returns : goal.returns
returns c = λ x follows. execution_serves x.script x.events x.playable x.execution follows
