use Rattle.law_clients.proofs.Run.{linked_run}
use Rattle.law_clients.proofs.order.story_gives_run.Goals as goal

pub returns : goal.returns
returns c = λ script e. linked_run script e.fit e.labelled e.opening e.closing e.moments e.order e.fitting e.linked e.follows e.traced e.empty e.ordered e.ids
