use Rattle.law_runs.proofs.WroteRuns.{execution_many, execution_wrote}
use Rattle.law_runs.proofs.laws.commits_prepare_written.Goals as goal

pub returns : goal.returns
returns c = record { written = λ x. execution_wrote x.script x.events x.playable x.execution; counted = λ x. execution_many x.script x.events x.playable x.execution }
