use Rattle.law_protocol.proofs.real_time.clock_counts_events.Goals as goal
use Rattle.law_protocol.proofs.Current.{now_is}

pub returns : goal.returns
returns c = now_is
