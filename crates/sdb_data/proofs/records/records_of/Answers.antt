use Rattle.std.proofs.Common.{sym}
use Rattle.sdb_data.proofs.AllRead.{all-read}
use Rattle.sdb_data.proofs.records.records_of.Goals as goal

pub returns-in-Ok : goal.returns-in-Ok
returns-in-Ok c = sym (all-read _ _ c.in-Ok.ensures)
