use Rattle.law_clients.proofs.Bodies.{body_step}
use Rattle.law_clients.proofs.statements.statement_more.Goals as goal

pub returns : goal.returns
returns c = λ b n. body_step b.past b.catalog b.fit b.statements b.answers b.seen n.statement n.a n.answer n.changes b.comes b.ok n.covered n.answers
