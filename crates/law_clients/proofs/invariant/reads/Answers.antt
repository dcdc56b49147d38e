use Rattle.law_clients.proofs.InvariantTurns.{going_asks}
use Rattle.law_clients.proofs.InvariantCalls.{going_differs, going_fails, going_keeps, going_reads, going_tells}
use Rattle.law_clients.proofs.invariant.reads.Goals as goal

pub returns : goal.returns
returns c = record {
  asks = λ p q st a may. going_asks p.catalog p.fit p.events p.sys p.doing p.running q.client q.text st q.id q.seen a q.is_open may.of_data may.reads may.inner;
  goes_on = λ p r. going_reads p.catalog p.fit p.events p.sys p.doing p.running r.call.client r.call.store r.call.request r.call.how r.call.reply r.call.now r.id r.seen r.asked r.stage r.reads r.replies;
  fails = λ p r b runs. going_fails p.catalog p.fit p.events p.sys p.doing p.running r.call.client r.call.store r.call.request r.call.how r.call.reply r.call.now r.id r.seen r.asked r.stage r.reads r.replies b runs.0 runs.1;
  keeps = λ p d.
      let r = d.reply in
      going_keeps p.catalog p.fit p.events p.sys p.doing p.running r.call.client r.call.store r.call.request r.call.how r.call.reply r.call.now r.id r.seen r.asked r.stage r.reads r.replies d.answer d.runs.0 d.runs.1 d.images d.nothing d.finishes d.done
      d.may_note;
  is_known = λ p l.
      let r = l.reply in
      let t = l.answered in
      going_tells p.catalog p.fit p.events p.sys p.doing p.running r.call.client r.call.store r.call.request r.call.how r.call.reply r.call.now r.id r.seen r.asked r.stage r.reads r.replies t.answer t.statement l.runs l.images t.changes
      t.from_rows l.done l.may_note t.covered t.answers t.are_changes;
  differs = λ p r b runs. going_differs p.catalog p.fit p.events p.sys p.doing p.running r.call.client r.call.store r.call.request r.call.how r.call.reply r.call.now r.id r.seen r.asked r.stage r.reads r.replies b runs.0 runs.1;
}
