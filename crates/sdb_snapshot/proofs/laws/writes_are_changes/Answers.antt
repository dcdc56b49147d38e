use Rattle.sdb_snapshot.proofs.SeenRows.{own_is}
use Rattle.sdb_snapshot.proofs.laws.writes_are_changes.Goals as goal

pub returns : goal.returns
returns c = own_is
