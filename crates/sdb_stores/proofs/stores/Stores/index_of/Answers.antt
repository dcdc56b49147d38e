use Rattle.sdb_stores.proofs.Called.{placed}
use Rattle.sdb_stores.proofs.stores.Stores.index_of.Goals as goal

pub returns : goal.returns
returns g c = placed _ c.args.self.now.slots.items _ c.args.name.now c.place_in.result c.deref.ensures.value c.place_in.ensures
