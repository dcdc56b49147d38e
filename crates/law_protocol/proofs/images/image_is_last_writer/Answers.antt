use Rattle.law_protocol.proofs.images.image_is_last_writer.Goals as goal
use Rattle.law_protocol.specs.Runs.{history_of, contents_of_run}
use Rattle.law_protocol.proofs.Times.{whole_of}
use Rattle.law_protocol.proofs.Derived.{image_is_last_writer}

pub returns : goal.returns
returns c = λ r. image_is_last_writer r.plan r.places (history_of r) r.past (contents_of_run r) (whole_of r.plan r.places r.opening r.past r.moments r.run)
