use Rattle.law_clients.proofs.Answered.{story_asks, story_takes}
use Rattle.law_clients.proofs.history.statement_waits.Goals as goal

pub returns : goal.returns
returns c = record {
  asks = λ k next q text t leaves. story_asks k.events k.past k.sys next k.client k.answered q text k.story t.none_waits t.takes leaves.counts leaves.apart leaves.keeps;
  takes = λ k next text t. story_takes k.events k.past k.sys next k.client k.answered text k.story t.none_waits t.commits t.keeps;
}
