use Rattle.law_protocol.proofs.images.points_differ.Goals as goal
use Rattle.law_protocol.specs.Runs.{history_of}
use Rattle.law_protocol.proofs.Times.{whole_of}
use Rattle.law_protocol.proofs.Derived.{points_differ}

pub returns : goal.returns
returns c = λ r. points_differ r.plan (history_of r) (whole_of r.plan r.places r.opening r.past r.moments r.run).all
