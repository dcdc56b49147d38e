use Rattle.law_answers.proofs.Recoveries.{resolves_so}
use Rattle.law_answers.proofs.recovery_paths.resolves.Goals as goal

pub returns : goal.returns
returns c = resolves_so
