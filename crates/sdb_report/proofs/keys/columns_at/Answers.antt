use Rattle.sdb_report.proofs.KeyLaws.{pairs_sound}
use Rattle.sdb_report.proofs.keys.columns_at.Goals as goal

pub from_pairs-requires : goal.from_pairs-requires
from_pairs-requires c = (pairs_sound c.in_ok-rest.rest.now (c.in_ok-pairs.pairs, c.in_ok-pairs.rest.now) c.in_ok-pairs.ensures).fits.sorted
