use Rattle.law_runs.proofs.Beginnings.{sound_at}
use Rattle.law_runs.proofs.laws.records_are_sound_at_every_moment.Goals as goal

pub returns : goal.returns
returns c = λ x t n. sound_at x.script x.events t.opening t.closing t.moments n x.playable x.execution t.trace t.nothing
