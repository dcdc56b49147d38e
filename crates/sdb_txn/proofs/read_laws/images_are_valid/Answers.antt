use Rattle.sdb_txn.proofs.Keeps.{step_valid}
use Rattle.sdb_txn.proofs.read_laws.images_are_valid.Goals as goal

pub returns : goal.returns
returns c = step_valid
