use Rattle.std.proofs.Common.{Ok, Err, refl}
use Rattle.sdb_types.specs.declared.record.Request.TheVariants.{Get}
use Rattle.sdb_types.specs.declared.record.Reply.TheVariants as reply
use Rattle.sdb_sqlite.proofs.Lawful.{get_lawful}
use Rattle.sdb_sqlite.proofs.Gets.{get_told}
use Rattle.sdb_sqlite.proofs.Stops.{answered_call, stopped_call}
use Rattle.sdb_sqlite.proofs.kept.KeptStore.get.Goals as goal

pub returns-in-Ok-clause-called : goal.returns-in-Ok-clause-called
returns-in-Ok-clause-called g c =
    answered_call g.S.Store _ (Get c.args.key.now) c.args.self.now.connection c.find.new.connection _ (reply.Found c.in-Ok.found) _ _ _ _ refl
    (get_lawful g.S.Store c.args.key.now c.args.self.now.connection c.find.new.connection (Ok c.in-Ok.found) c.in-Ok.ensures)
    refl c.one_more-self.ensures
    (λ h. get_told g.S.Store c.args.key.now c.args.self.now.connection c.find.new.connection (Ok c.in-Ok.found) (g.met.S.Held.answered h.0 c.find.new.connection.store) c.key_facts.ensures h.1 c.in-Ok.ensures)

pub returns-in-Err-clause-called : goal.returns-in-Err-clause-called
returns-in-Err-clause-called g c =
    stopped_call g.S.Store _ (Get c.args.key.now) c.args.self.now.connection c.find.new.connection c.in-Err.stopped _ _ _ _ _ c.stop.ensures.reply c.stop.ensures.faults c.one_more-self.ensures
    (λ h. get_told g.S.Store c.args.key.now c.args.self.now.connection c.find.new.connection (Err c.in-Err.stopped) (g.met.S.Held.answered h.0 c.find.new.connection.store) c.key_facts.ensures h.1 c.in-Err.ensures)
