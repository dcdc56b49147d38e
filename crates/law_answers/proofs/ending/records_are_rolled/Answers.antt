use Rattle.law_answers.proofs.Faults.{answered_seen}
use Rattle.law_answers.proofs.Rolled.{all_resolved, records_rolled}
use Rattle.law_answers.proofs.ending.records_are_rolled.Goals as goal

pub returns-clause-rolled : goal.returns-clause-rolled
returns-clause-rolled x = records_rolled

pub returns-clause-seen : goal.returns-clause-seen
returns-clause-seen x = λ s rolled. all_resolved s.events rolled (answered_seen s.script s.events s.follows)
