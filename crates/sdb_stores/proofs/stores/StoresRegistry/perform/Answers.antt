use Rattle.sdb_stores.proofs.Called.{home_within, moved_at, same_home, same_names, grown, caused, shown_inside}
use Rattle.sdb_stores.proofs.stores.StoresRegistry.perform.Goals as goal

pub perform_on-requires-clause-at : goal.perform_on-requires-clause-at
perform_on-requires-clause-at g c =
    shown_inside _ c.args.self.now.slots.items _ (home_within _ c.args.self.now.slots.items c.args.self.now.places c.table_of.result.now.ns c.home_of-at.result c.requires.some c.home_of-at.ensures)

pub returns-clause-called : goal.returns-clause-called
returns-clause-called g c =
    moved_at _ _ _ _ _ _ (same_home _ c.args.self.now.places c.table_of.result.now _ c.home_of-at.result c.home_of-at.ensures c.table_of.ensures) c.perform_on.ensures.called

pub returns-clause-names : goal.returns-clause-names
returns-clause-names g c = same_names _ _ _ _ _ (returns-clause-called g c)

pub returns-clause-counted : goal.returns-clause-counted
returns-clause-counted g c = grown _ _ _ _ _ (returns-clause-called g c)

pub returns-clause-cause : goal.returns-clause-cause
returns-clause-cause g c = caused _ _ _ _ _ (returns-clause-called g c)
