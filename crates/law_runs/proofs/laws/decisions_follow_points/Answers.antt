use Rattle.law_answers.proofs.Public.{answered_seen}
use Rattle.law_runs.proofs.WroteRuns.{execution_points}
use Rattle.law_runs.proofs.laws.decisions_follow_points.Goals as goal

pub returns : goal.returns
returns c = λ x follows. execution_points x.script x.events x.playable x.execution (answered_seen x.script x.events follows)
