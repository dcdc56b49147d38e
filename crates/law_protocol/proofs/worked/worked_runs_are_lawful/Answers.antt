use Rattle.law_protocol.proofs.worked.worked_runs_are_lawful.Goals as goal
use Rattle.law_protocol.proofs.Examples.{lost_decision_lawful, recovery_lawful, vacuumed_lawful}

pub returns-clause-lost_decision : goal.returns-clause-lost_decision
returns-clause-lost_decision c = lost_decision_lawful

pub returns-clause-recovery : goal.returns-clause-recovery
returns-clause-recovery c = recovery_lawful

pub returns-clause-vacuum : goal.returns-clause-vacuum
returns-clause-vacuum c = vacuumed_lawful
