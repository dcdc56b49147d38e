use Rattle.std.proofs.Common.{Ok, Err, refl}
use Rattle.sdb_types.specs.declared.record.Request.TheVariants.{Scan}
use Rattle.sdb_types.specs.declared.record.Reply.TheVariants as reply
use Rattle.sdb_sqlite.proofs.Lawful.{scan_lawful}
use Rattle.sdb_sqlite.proofs.Scans.{scan_told}
use Rattle.sdb_sqlite.proofs.Stops.{answered_call, stopped_call}
use Rattle.sdb_sqlite.proofs.kept.KeptStore.scan.Goals as goal

pub returns-in-Ok-clause-called : goal.returns-in-Ok-clause-called
returns-in-Ok-clause-called g c =
    answered_call g.S.Store _ (Scan c.args.span.now) c.args.self.now.connection c.list.new.connection _ (reply.Rows c.in-Ok.rows) _ _ _ _ refl
    (scan_lawful g.S.Store c.args.span.now c.args.self.now.connection c.list.new.connection (Ok c.in-Ok.rows) c.in-Ok.ensures)
    refl c.one_more-self.ensures
    (λ h. scan_told g.S.Store c.args.span.now c.args.self.now.connection c.list.new.connection (Ok c.in-Ok.rows) (g.met.S.Held.answered h.0 c.list.new.connection.store) c.span_facts.ensures h.1 c.in-Ok.ensures)

pub returns-in-Err-clause-called : goal.returns-in-Err-clause-called
returns-in-Err-clause-called g c =
    stopped_call g.S.Store _ (Scan c.args.span.now) c.args.self.now.connection c.list.new.connection c.in-Err.stopped _ _ _ _ _ c.stop.ensures.reply c.stop.ensures.faults c.one_more-self.ensures
    (λ h. scan_told g.S.Store c.args.span.now c.args.self.now.connection c.list.new.connection (Err c.in-Err.stopped) (g.met.S.Held.answered h.0 c.list.new.connection.store) c.span_facts.ensures h.1 c.in-Err.ensures)
