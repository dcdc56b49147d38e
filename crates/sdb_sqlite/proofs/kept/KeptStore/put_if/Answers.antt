use Rattle.std.proofs.Common.{Ok, Err}
use Rattle.sdb_types.specs.declared.record.Request.TheVariants.{PutIf}
use Rattle.sdb_sqlite.specs.Asked.{write_reply}
use Rattle.sdb_sqlite.proofs.Lawful.{put_lawful}
use Rattle.sdb_sqlite.proofs.Puts.{put_told}
use Rattle.sdb_sqlite.proofs.Stops.{answered_call, stopped_call, written_cause}
use Rattle.sdb_sqlite.proofs.kept.KeptStore.put_if.Goals as goal

pub returns-in-Ok-clause-called : goal.returns-in-Ok-clause-called
returns-in-Ok-clause-called g c =
    answered_call g.S.Store _ (PutIf c.args.rec.now c.args.condition.now) c.args.self.now.connection c.put.new.connection _ (write_reply (Ok c.in-Ok.written)) _ _ _ _ c.reply_of.ensures
    (put_lawful g.S.Store c.args.rec.now c.args.condition.now c.args.self.now.connection c.put.new.connection (Ok c.in-Ok.written) c.in-Ok.ensures)
    (written_cause c.in-Ok.written c.args.self.now.faults) c.one_more-self.ensures
    (λ h. put_told g.S.Store c.args.rec.now c.args.condition.now c.args.self.now.connection c.put.new.connection (Ok c.in-Ok.written) (λ s. g.met.S.Held.answered h.0 s.store) c.record_facts.ensures h.1 c.in-Ok.ensures)

pub returns-in-Err-clause-called : goal.returns-in-Err-clause-called
returns-in-Err-clause-called g c =
    stopped_call g.S.Store _ (PutIf c.args.rec.now c.args.condition.now) c.args.self.now.connection c.put.new.connection c.in-Err.stopped _ _ _ _ _ c.stop.ensures.reply c.stop.ensures.faults c.one_more-self.ensures
    (λ h. put_told g.S.Store c.args.rec.now c.args.condition.now c.args.self.now.connection c.put.new.connection (Err c.in-Err.stopped) (λ s. g.met.S.Held.answered h.0 s.store) c.record_facts.ensures h.1 c.in-Err.ensures)
