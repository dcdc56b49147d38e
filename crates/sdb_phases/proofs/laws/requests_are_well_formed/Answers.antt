use Rattle.sdb_phases.proofs.Formed.{pending_formed}
use Rattle.sdb_phases.proofs.laws.requests_are_well_formed.Goals as goal

pub returns : goal.returns
returns c = pending_formed
