use Rattle.sdb_vacuum.proofs.Counts.{counts}
use Rattle.sdb_vacuum.proofs.laws.counts_removals.Goals as goal

pub returns : goal.returns
returns c = λ r n. counts r.catalog r.past n r.correct
