use Rattle.law_runs.proofs.Beginnings.{begins_execution}
use Rattle.law_runs.proofs.laws.beginnings_are_executions.Goals as goal

pub returns : goal.returns
returns c = λ x n. begins_execution x.script x.events n x.execution
