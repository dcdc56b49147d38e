use Rattle.law_clients.proofs.Answered.{said_at_once, said_later}
use Rattle.law_clients.proofs.history.statement_is_recorded.Goals as goal

pub returns : goal.returns
returns c = record {
  at_once = λ k q text a t. said_at_once k.events k.past k.sys k.client k.answered q text a k.story t.none_waits t.takes;
  later = λ k q a r. said_later k.events k.past k.sys k.client k.answered q r.waiting r.store r.ask r.how r.reply a k.story r.waits r.calls;
}
