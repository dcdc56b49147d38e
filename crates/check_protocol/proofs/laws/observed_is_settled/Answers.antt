use Rattle.check_protocol.proofs.ObservedLaws.{commit_shown, shows_commit_of, abort_shown, shows_abort_of, bad_row_shown, shows_bad_row_of}
use Rattle.check_protocol.proofs.SettledLaws.{settled_is, is_settled_of}
use Rattle.check_protocol.proofs.laws.observed_is_settled.Goals as goal

pub returns-clause-committed : goal.returns-clause-committed
returns-clause-committed c past t = (commit_shown past t, λ s. shows_commit_of past t s.0 s.1)

pub returns-clause-aborted : goal.returns-clause-aborted
returns-clause-aborted c past t = (abort_shown past t, λ s. shows_abort_of past t s.0 s.1)

pub returns-clause-bad_row : goal.returns-clause-bad_row
returns-clause-bad_row c past t = (bad_row_shown past t, shows_bad_row_of past t)

pub returns-clause-settled : goal.returns-clause-settled
returns-clause-settled c past k b = (settled_is past k b, is_settled_of past k b)
