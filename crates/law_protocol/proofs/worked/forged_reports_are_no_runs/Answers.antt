use Rattle.law_protocol.proofs.worked.forged_reports_are_no_runs.Goals as goal
use Rattle.law_protocol.proofs.Forged.{liar_is_no_run, twice_is_no_run}

pub returns : goal.returns
returns c = record { liar = liar_is_no_run; twice = twice_is_no_run }
