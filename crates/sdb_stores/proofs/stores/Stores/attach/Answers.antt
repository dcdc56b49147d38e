use Rattle.std.proofs.Common.{sym, ◌∙◌}
use Rattle.sdb_stores.proofs.Distinct.{attached, added}
use Rattle.sdb_stores.proofs.stores.Stores.attach.Goals as goal

pub invariant_of-self : goal.invariant_of-self
invariant_of-self g c = record { distinct = attached _ c.args.self.now.slots.items c.push.new.self.items _ _ c.index_of.result c.args.self.now.distinct c.index_of.ensures (sym c.is_some.ensures ∙ c.if-is_some.false) c.push.ensures.items }

pub returns-in-Ok-clause-ok : goal.returns-in-Ok-clause-ok
returns-in-Ok-clause-ok g c = added _ _ c.args.self.now.slots.items c.push.new.self.items _ c.in-Ok.ensures.items
