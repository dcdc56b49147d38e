use Rattle.law_clients.proofs.Faith.{faithful}
use Rattle.law_clients.proofs.stories.faithful.Goals as goal

pub returns : goal.returns
returns c = faithful
