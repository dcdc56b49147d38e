use Rattle.law_runs.proofs.Completing.{execution_resolved, execution_statements}
use Rattle.law_runs.proofs.laws.statements_complete.Goals as goal

pub returns : goal.returns
returns c = record { ends = λ x. execution_statements x.script x.events x.playable x.execution; resolved = λ x. execution_resolved x.script x.events x.playable x.execution }
