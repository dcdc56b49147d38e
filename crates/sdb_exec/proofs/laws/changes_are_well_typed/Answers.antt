use Rattle.sdb_exec.proofs.Fits.{changes_fit}
use Rattle.sdb_exec.proofs.laws.changes_are_well_typed.Goals as goal

pub returns : goal.returns
returns c = λ s rows. changes_fit s.table s.statement rows s.literals s.accepted
