use Rattle.sdb_types.proofs.ColumnLemmas.{after_put}
use Rattle.sdb_types.proofs.columns.Columns.set_near.Goals as goal

pub invariant_of-self : goal.invariant_of-self
invariant_of-self c = after_put c.put.result _ _ _ c.put.ensures.ok c.put.ensures.err c.self.invariant
