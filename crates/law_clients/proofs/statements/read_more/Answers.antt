use Rattle.law_clients.proofs.Bodies.{body_read}
use Rattle.law_clients.proofs.statements.read_more.Goals as goal

pub returns : goal.returns
returns c = λ b a images. body_read b.past b.catalog b.fit b.statements b.answers b.seen a images b.ok b.comes
