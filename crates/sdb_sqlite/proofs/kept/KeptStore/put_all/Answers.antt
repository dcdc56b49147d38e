use Rattle.std.proofs.Common.{Ok, Err}
use Rattle.sdb_types.specs.declared.record.Request.TheVariants.{PutAll}
use Rattle.sdb_sqlite.specs.Asked.{batch_reply}
use Rattle.sdb_sqlite.proofs.Batches.{batch_told}
use Rattle.sdb_sqlite.proofs.Lawful.{batch_lawful}
use Rattle.sdb_sqlite.proofs.Stops.{answered_call, batch_cause, stopped_call}
use Rattle.sdb_sqlite.proofs.kept.KeptStore.put_all.Goals as goal

pub returns-in-Ok-clause-called : goal.returns-in-Ok-clause-called
returns-in-Ok-clause-called g c =
    answered_call g.S.Store _ (PutAll c.args.batch.now) c.args.self.now.connection c.put_all.new.connection _ (batch_reply (Ok c.in-Ok.written)) _ _ _ _ c.reply_of_batch.ensures
    (batch_lawful g.S.Store c.args.batch.now c.args.self.now.connection c.put_all.new.connection (Ok c.in-Ok.written) c.in-Ok.ensures)
    (batch_cause c.in-Ok.written c.args.self.now.faults) c.one_more-self.ensures
    (λ h. batch_told g.S.Store (λ s. g.met.S.Held.answered h.0 s.store) c.args.batch.now c.args.self.now.connection h.1 c.put_all.new.connection (Ok c.in-Ok.written) c.batch_facts.ensures c.requires.once c.in-Ok.ensures)

pub returns-in-Err-clause-called : goal.returns-in-Err-clause-called
returns-in-Err-clause-called g c =
    stopped_call g.S.Store _ (PutAll c.args.batch.now) c.args.self.now.connection c.put_all.new.connection c.in-Err.stopped _ _ _ _ _ c.stop.ensures.reply c.stop.ensures.faults c.one_more-self.ensures
    (λ h. batch_told g.S.Store (λ s. g.met.S.Held.answered h.0 s.store) c.args.batch.now c.args.self.now.connection h.1 c.put_all.new.connection (Err c.in-Err.stopped) c.batch_facts.ensures c.requires.once c.in-Err.ensures)
