use Rattle.law_clients.proofs.HistoryTurns.{stories_turn, client_stands, begun_stands}
use Rattle.law_clients.proofs.history.stories_go_on.Goals as goal

pub returns : goal.returns
returns c = record {
  all = λ t. stories_turn t.plan t.events t.past t.sys t.next t.client t.turn t.answered t.more t.ok t.by t.others t.stories t.own;
  moved = client_stands;
  begun = begun_stands;
}
