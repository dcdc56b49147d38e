use Rattle.sdb_sqlite.proofs.Released.{released}
use Rattle.sdb_sqlite.proofs.kept.Kept.release.Goals as goal

pub returns-clause-released : goal.returns-clause-released
returns-clause-released g c is_known = released g.S.Store c.args.self.connection is_known.1
