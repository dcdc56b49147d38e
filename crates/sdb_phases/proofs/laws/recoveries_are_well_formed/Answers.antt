use Rattle.sdb_phases.proofs.Formed.{recover_formed}
use Rattle.sdb_phases.proofs.laws.recoveries_are_well_formed.Goals as goal

pub returns : goal.returns
returns c = recover_formed
