use Rattle.check_protocol.proofs.StateLaws.{fresh_tells, owner_is, open_is, stopped_is, taken_is, asked_is, told_is, checked_is, preparing_tells, deciding_tells, risked_is, won_is, dead_is, met_is}
use Rattle.check_protocol.proofs.laws.state_is_protocol_state.Goals as goal

pub returns-clause-begun : goal.returns-clause-begun
returns-clause-begun c = fresh_tells

pub returns-clause-owner : goal.returns-clause-owner
returns-clause-owner c = owner_is

pub returns-clause-is_open : goal.returns-clause-is_open
returns-clause-is_open c = open_is

pub returns-clause-stopped : goal.returns-clause-stopped
returns-clause-stopped c = stopped_is

pub returns-clause-accepted : goal.returns-clause-accepted
returns-clause-accepted c = taken_is

pub returns-clause-asked : goal.returns-clause-asked
returns-clause-asked c = asked_is

pub returns-clause-answered : goal.returns-clause-answered
returns-clause-answered c = told_is

pub returns-clause-checked : goal.returns-clause-checked
returns-clause-checked c = checked_is

pub returns-clause-preparing : goal.returns-clause-preparing
returns-clause-preparing c = preparing_tells

pub returns-clause-deciding : goal.returns-clause-deciding
returns-clause-deciding c = deciding_tells

pub returns-clause-risked : goal.returns-clause-risked
returns-clause-risked c = risked_is

pub returns-clause-won : goal.returns-clause-won
returns-clause-won c = won_is

pub returns-clause-dead : goal.returns-clause-dead
returns-clause-dead c = dead_is

pub returns-clause-met : goal.returns-clause-met
returns-clause-met c = met_is
