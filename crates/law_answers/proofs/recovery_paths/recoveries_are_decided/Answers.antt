use Rattle.law_answers.proofs.Recoveries.{told_are}
use Rattle.law_answers.proofs.recovery_paths.recoveries_are_decided.Goals as goal

pub returns : goal.returns
returns c = told_are
