use Rattle.sdb_shards.proofs.Fitting.{fits_as}
use Rattle.sdb_shards.proofs.homes.fits.Goals as goal

pub returns : goal.returns
returns c = fits_as c.key_has_spelling.result c.args.key.now c.key_has_spelling.ensures
