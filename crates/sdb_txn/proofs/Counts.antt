-- The calls of a COMMIT.
use Rattle.sdb_phases.specs.CommitLaws.{IsWork}
use Rattle.sdb_phases.specs.Work.{Work}
use Rattle.sdb_phases.proofs.Public.{at_most, ends_exactly}
use Rattle.sdb_txn.specs.Txn.{AreCallsCounted}

pub counted : (p : Work) → IsWork p → AreCallsCounted p
counted p work = record { exact = λ past. ends_exactly p past work; most = λ past. at_most p past work }
