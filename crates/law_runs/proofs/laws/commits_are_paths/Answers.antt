use Rattle.law_runs.proofs.CommitPaths.{execution_open_paths, execution_paths}
use Rattle.law_runs.proofs.laws.commits_are_paths.Goals as goal

pub returns : goal.returns
returns c = record { answered = λ x. execution_paths x.script x.events x.playable x.execution; waiting = λ x. execution_open_paths x.script x.events x.playable x.execution }
