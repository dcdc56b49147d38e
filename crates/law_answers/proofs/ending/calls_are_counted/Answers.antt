use Rattle.law_answers.proofs.Counting.{all_counted, calls_counted}
use Rattle.law_answers.proofs.Faults.{seen_no_faults}
use Rattle.law_answers.proofs.ending.calls_are_counted.Goals as goal

pub returns-clause-fits : goal.returns-clause-fits
returns-clause-fits x = calls_counted

pub returns-clause-seen : goal.returns-clause-seen
returns-clause-seen x = λ catalog s counted. all_counted catalog s.events counted (seen_no_faults s.script s.events s.follows)
