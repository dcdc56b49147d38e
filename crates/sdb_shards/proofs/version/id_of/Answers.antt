use Rattle.sdb_types.proofs.Public.{none_some}
use Rattle.sdb_shards.proofs.version.id_of.Goals as goal

pub returns-in-None-clause-none : goal.returns-in-None-clause-none
returns-in-None-clause-none c = λ n fits e. none_some _ (c.in-None.ensures.read n fits e)
