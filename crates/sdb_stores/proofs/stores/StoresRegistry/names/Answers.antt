use Rattle.sdb_stores.proofs.Called.{named}
use Rattle.sdb_stores.proofs.Distinct.{observed}
use Rattle.sdb_stores.proofs.stores.StoresRegistry.names.Goals as goal

pub returns-clause-names : goal.returns-clause-names
returns-clause-names g c = named _ c.args.self.now.slots.items _ c.names_in.result c.deref.ensures.value c.names_in.ensures

pub returns-clause-distinct : goal.returns-clause-distinct
returns-clause-distinct g c = observed _ c.args.self.now.slots.items c.args.self.now.distinct
