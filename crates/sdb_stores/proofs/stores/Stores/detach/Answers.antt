use Rattle.sdb_stores.proofs.Called.{taken_out, found_within}
use Rattle.sdb_stores.proofs.Distinct.{detached}
use Rattle.sdb_stores.proofs.stores.Stores.detach.Goals as goal

pub invariant_of-self : goal.invariant_of-self
invariant_of-self g c = record { distinct = detached _ c.args.self.now.slots.items c.remove-store.new.self.items c.in_ok-i.i (found_within _ _ _ _ c.in_ok-i.ensures) c.args.self.now.distinct c.remove-store.ensures.items }

pub returns-clause-some : goal.returns-clause-some
returns-clause-some g c =
    taken_out _ _ c.args.self.now.slots.items c.remove-store.new.self.items c.args.name.now c.in_ok-i.i c.remove-store.result c.in_ok-i.ensures c.remove-store.ensures.value c.remove-store.ensures.items c.leave.ensures
