use Rattle.law_protocol.proofs.serial.reads_are_serial.Goals as goal
use Rattle.law_protocol.specs.Runs.{history_of, contents_of_run}
use Rattle.law_protocol.proofs.Times.{whole_of}
use Rattle.law_protocol.proofs.Order.{reads_serial}

pub returns : goal.returns
returns c = λ r order o. reads_serial r.plan r.places (history_of r) r.past (contents_of_run r) order (whole_of r.plan r.places r.opening r.past r.moments r.run) o
