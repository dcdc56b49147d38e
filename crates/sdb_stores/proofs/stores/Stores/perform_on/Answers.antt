use Rattle.std.proofs.Common.{refl}
use Rattle.sdb_stores.proofs.Called.{called_at, shown_within}
use Rattle.sdb_stores.proofs.Distinct.{called_on}
use Rattle.sdb_stores.proofs.stores.Stores.perform_on.Goals as goal

pub invariant_of-self : goal.invariant_of-self
invariant_of-self g c =
    let xs = c.args.self.now.slots.items in
    let inside = shown_within _ xs c.args.at c.requires.at in
    record { distinct = called_on _ xs c.args.at c.index_mut-slot.result.now c.call_slot.new.slot c.args.self.now.distinct inside c.index_mut-slot.ensures.value c.call_slot.ensures.name }

pub returns-clause-called : goal.returns-clause-called
returns-clause-called g c =
    let xs = c.args.self.now.slots.items in
    let inside = shown_within _ xs c.args.at c.requires.at in
    called_at _ _ xs c.args.at c.args.at c.args.request.now c.call_slot.result c.index_mut-slot.result.now c.call_slot.new.slot c.requires.formed inside c.index_mut-slot.ensures.value refl c.call_slot.ensures.name c.call_slot.ensures.called
