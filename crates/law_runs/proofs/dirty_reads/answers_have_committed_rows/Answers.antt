use Rattle.law_runs.proofs.Finding.{answers_committed}
use Rattle.law_runs.proofs.dirty_reads.answers_have_committed_rows.Goals as goal

pub returns : goal.returns
returns c = answers_committed
