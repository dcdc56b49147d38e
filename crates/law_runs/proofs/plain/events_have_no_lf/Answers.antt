use Rattle.law_runs.proofs.PlainRuns.{events_have_none}
use Rattle.law_runs.proofs.plain.events_have_no_lf.Goals as goal

pub returns : goal.returns
returns c = events_have_none
