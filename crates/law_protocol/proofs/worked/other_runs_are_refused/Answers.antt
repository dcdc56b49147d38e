use Rattle.law_protocol.proofs.worked.other_runs_are_refused.Goals as goal
use Rattle.law_protocol.proofs.Examples.{decided_early_refused, prepared_twice_refused, rolled_blindly_refused, checked_moved_refused, removed_while_open_refused}

pub returns-clause-decided_early : goal.returns-clause-decided_early
returns-clause-decided_early c = decided_early_refused

pub returns-clause-prepared_twice : goal.returns-clause-prepared_twice
returns-clause-prepared_twice c = prepared_twice_refused

pub returns-clause-rolled_blindly : goal.returns-clause-rolled_blindly
returns-clause-rolled_blindly c = rolled_blindly_refused

pub returns-clause-checked_changed : goal.returns-clause-checked_changed
returns-clause-checked_changed c = checked_moved_refused

pub returns-clause-removed_while_open : goal.returns-clause-removed_while_open
returns-clause-removed_while_open c = removed_while_open_refused
