use Rattle.law_runs.proofs.FoundRuns.{execution_runs}
use Rattle.law_runs.proofs.laws.transactions_run_on_found.Goals as goal

pub returns : goal.returns
returns c = λ x. execution_runs x.script x.events x.playable x.execution
