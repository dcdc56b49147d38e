use Rattle.law_protocol.proofs.worked.a_run_exists.Goals as goal
use Rattle.law_protocol.proofs.FirstTrace.{first_is_run, first_is_recorded}

pub returns-clause-run : goal.returns-clause-run
returns-clause-run c = first_is_run

pub returns-clause-recorded : goal.returns-clause-recorded
returns-clause-recorded c = first_is_recorded
