use Rattle.law_runs.proofs.Busy.{execution_busy}
use Rattle.law_runs.proofs.laws.busy_is_of_reads.Goals as goal

pub returns : goal.returns
returns c = λ x. execution_busy x.script x.events x.playable x.execution
