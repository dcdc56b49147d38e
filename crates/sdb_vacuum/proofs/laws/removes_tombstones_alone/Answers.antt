use Rattle.sdb_vacuum.proofs.WellFormed.{after_fine}
use Rattle.sdb_vacuum.proofs.laws.removes_tombstones_alone.Goals as goal

pub returns : goal.returns
returns c = λ r. after_fine r.catalog r.past r.correct
