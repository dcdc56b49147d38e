use Rattle.sdb_stores.proofs.Called.{name_at, home_within}
use Rattle.sdb_stores.proofs.stores.StoresRegistry.store_of.Goals as goal

pub returns : goal.returns
returns g c =
    let xs = c.args.self.now.slots.items in
    let inside = home_within _ xs c.args.self.now.places c.args.table.now.ns c.home_of.result c.requires c.home_of.ensures in
    rw c.name.ensures (name_at _ xs c.home_of.result _ c.index.result.now inside c.index.ensures c.home_of.ensures)
