use Rattle.sdb_exec.proofs.Local.{agree_rows}
use Rattle.sdb_exec.proofs.laws.access_is_local.Goals as goal

pub returns : goal.returns
returns c = agree_rows
