use Rattle.law_protocol.proofs.runs.real_time.Goals as goal
use Rattle.law_protocol.proofs.Times.{real_time}

pub returns : goal.returns
returns c = λ e t u b. real_time e.plan e.places e.opening e.later e.past e.event e.more e.moments e.after t u b.client e.even e.run b.is_known b.begins b.recorded
