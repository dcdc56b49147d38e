use Rattle.law_protocol.proofs.runs.events_change_all_or_none.Goals as goal
use Rattle.std.proofs.Common.{◌∷◌}
use Rattle.law_protocol.proofs.Selfless.{lawful_changes}
use Rattle.law_protocol.proofs.Times.{front_run}

pub returns : goal.returns
returns c = λ e. lawful_changes e.plan e.places e.opening e.past e.event e.moments e.after (front_run e.plan e.places e.opening e.later (e.event ∷ e.past) e.more (e.after ∷ e.moments) e.even e.run)
