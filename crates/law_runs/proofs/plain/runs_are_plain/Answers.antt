use Rattle.law_runs.proofs.PlainRuns.{run_plain}
use Rattle.law_runs.proofs.plain.runs_are_plain.Goals as goal

pub returns : goal.returns
returns c = run_plain
