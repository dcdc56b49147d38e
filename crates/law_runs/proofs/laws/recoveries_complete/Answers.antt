use Rattle.law_runs.proofs.Completing.{execution_recovers}
use Rattle.law_runs.proofs.laws.recoveries_complete.Goals as goal

pub returns : goal.returns
returns c = λ x follows. execution_recovers x.script x.events x.playable x.execution follows
