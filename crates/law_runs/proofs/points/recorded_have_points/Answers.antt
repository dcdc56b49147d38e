use Rattle.law_runs.proofs.Recorded.{have_points}
use Rattle.law_runs.proofs.Runs.{by_laws}
use Rattle.law_runs.proofs.points.recorded_have_points.Goals as goal

pub returns : goal.returns
returns c = λ t. let p = t.progress in have_points t.places p.events t.opening t.closing (by_laws p.catalog p.fit p.events p.sys p.doing t.places t.opening t.closing t.moments p.running t.trace t.empty)
