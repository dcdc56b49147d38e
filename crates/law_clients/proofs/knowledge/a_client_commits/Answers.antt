use Rattle.law_clients.proofs.Example.{some_commit}
use Rattle.law_clients.proofs.knowledge.a_client_commits.Goals as goal

pub returns : goal.returns
returns c = some_commit
