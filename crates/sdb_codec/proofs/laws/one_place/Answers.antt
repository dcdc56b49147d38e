use Rattle.sdb_codec.proofs.PlaceLaws as place
use Rattle.sdb_codec.proofs.laws.one_place.Goals as goal

pub returns : goal.returns
returns c = place.one_place
