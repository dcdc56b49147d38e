use Rattle.law_clients.proofs.HistoryTurns.{said_nothing_more, said_one_more, body_is_said}
use Rattle.law_clients.proofs.statements.body_is_executed.Goals as goal

pub returns : goal.returns
returns c = record {
  nothing = said_nothing_more;
  one = λ ss s r next ok m. said_one_more ss s r next m.statement m.answer ok m.effective m.reads m.answered m.body m.answers;
  whole = body_is_said;
}
