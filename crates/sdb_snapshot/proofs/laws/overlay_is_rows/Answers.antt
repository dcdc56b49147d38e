use Rattle.sdb_snapshot.proofs.SeenRows.{overlay_is}
use Rattle.sdb_snapshot.proofs.laws.overlay_is_rows.Goals as goal

pub returns : goal.returns
returns c = overlay_is
