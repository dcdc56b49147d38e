use Rattle.law_answers.proofs.Recoveries.{ended_so, fourth_ends}
use Rattle.law_answers.proofs.recovery_paths.ended.Goals as goal

pub returns : goal.returns
returns c = record { answered = ended_so; fourth = fourth_ends }
