use Rattle.sdb_snapshot.proofs.Forgotten.{get_forgotten, scan_forgotten}
use Rattle.sdb_snapshot.proofs.laws.reads_are_forgotten.Goals as goal

pub returns-clause-get : goal.returns-clause-get
returns-clause-get c = get_forgotten

pub returns-clause-scan : goal.returns-clause-scan
returns-clause-scan c = scan_forgotten
