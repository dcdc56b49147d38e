use Rattle.law_runs.proofs.Beginnings.{explained_at}
use Rattle.law_runs.proofs.laws.writes_persist_at_every_moment.Goals as goal

pub returns : goal.returns
returns c = λ x t n. (explained_at x.script x.events t.opening t.closing t.moments n x.playable x.execution t.trace t.nothing).stored_at.writes_stand
