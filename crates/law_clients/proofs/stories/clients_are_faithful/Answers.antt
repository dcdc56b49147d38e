use Rattle.law_clients.proofs.Files.{clients_faithful}
use Rattle.law_clients.proofs.stories.clients_are_faithful.Goals as goal

pub returns : goal.returns
returns c = λ k events answered. clients_faithful k.plan events k.past k.sys answered k.ok
