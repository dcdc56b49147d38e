use Rattle.sdb_validate.proofs.Rescans.{first_lost}
use Rattle.sdb_validate.proofs.laws.rescan_means.Goals as goal

pub returns : goal.returns
returns c = first_lost
