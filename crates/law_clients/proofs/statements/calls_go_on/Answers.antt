use Rattle.law_clients.proofs.Since.{since_now, since_more, calls_just, calls_stay}
use Rattle.law_clients.proofs.statements.calls_go_on.Goals as goal

pub returns : goal.returns
returns c = record { none = since_now; more = since_more; just = calls_just; stay = calls_stay }
