use Rattle.law_runs.proofs.Completing.{execution_commits}
use Rattle.law_runs.proofs.laws.uncontended_commits_complete.Goals as goal

pub returns : goal.returns
returns c = λ x. execution_commits x.script x.events x.playable x.execution
