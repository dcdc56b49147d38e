use Rattle.law_protocol.proofs.explained.delayed_stays_allowed.Goals as goal
use Rattle.law_protocol.proofs.InFlight.{delayed_allowed, flying_was_delayed}

pub returns-clause-in_flight : goal.returns-clause-in_flight
returns-clause-in_flight c = λ r n k q. flying_was_delayed r n k q

pub returns-clause-form : goal.returns-clause-form
returns-clause-form c = λ r n d m. (delayed_allowed r n d m).0

pub returns-clause-allowed : goal.returns-clause-allowed
returns-clause-allowed c = λ r n d m. (delayed_allowed r n d m).1
