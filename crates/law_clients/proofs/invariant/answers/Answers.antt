use Rattle.law_clients.proofs.InvariantTurns.{going_answers, going_idle, going_leaves_so, going_outside}
use Rattle.law_clients.proofs.invariant.answers.Goals as goal

pub returns : goal.returns
returns c = record {
  outside = λ p c text b. going_outside p.catalog p.fit p.events p.sys p.doing p.running c text b;
  idle = λ p q b. going_idle p.catalog p.fit p.events p.sys p.doing p.running q.client q.id q.seen q.is_open q.text b;
  rows = λ p q.
      going_answers p.catalog p.fit p.events p.sys p.doing p.running q.asked.client q.asked.id q.asked.seen q.asked.is_open q.asked.text q.rows.answer q.rows.statement q.a q.rows.changes
      q.rows.from_rows q.no_commit q.reads q.rows.covered q.rows.answers q.rows.are_changes;
  leaves = λ p q b. going_leaves_so p.catalog p.fit p.events p.sys p.doing p.running q.client q.id q.seen q.is_open q.text b;
}
