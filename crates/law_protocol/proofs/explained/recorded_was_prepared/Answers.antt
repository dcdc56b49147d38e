use Rattle.law_protocol.proofs.explained.recorded_was_prepared.Goals as goal
use Rattle.law_protocol.proofs.InFlight.{recorded_answered, recorded_undelayed}

pub returns-clause-answered : goal.returns-clause-answered
returns-clause-answered c = λ r n. recorded_answered r n

pub returns-clause-none_delayed : goal.returns-clause-none_delayed
returns-clause-none_delayed c = λ r n t d. recorded_undelayed r n t d
