use Rattle.law_clients.proofs.InvariantTurns.{going_vacuums}
use Rattle.law_clients.proofs.InvariantCalls.{going_scans, going_sweeps, going_swept}
use Rattle.law_clients.proofs.invariant.vacuum_steps.Goals as goal

pub returns : goal.returns
returns c = record {
  accepted = λ p c text span may. going_vacuums p.catalog p.fit p.events p.sys p.doing p.running c text span may.rests may.none_open may.of_data;
  goes_on = λ p r. going_sweeps p.catalog p.fit p.events p.sys p.doing p.running r.call.client r.call.store r.call.request r.call.how r.call.reply r.call.now r.stage r.vacuums r.replies;
  scans = λ p r span. going_scans p.catalog p.fit p.events p.sys p.doing p.running r.call.client r.call.store r.call.request r.call.how r.call.reply r.call.now r.stage r.vacuums r.replies span;
  ends = λ p r b. going_swept p.catalog p.fit p.events p.sys p.doing p.running r.call.client r.call.store r.call.request r.call.how r.call.reply r.call.now r.stage r.vacuums r.replies b;
}
