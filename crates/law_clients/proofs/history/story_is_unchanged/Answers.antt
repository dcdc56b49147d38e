use Rattle.law_clients.proofs.Histories.{story_stays, others_apart, others_silent}
use Rattle.law_clients.proofs.history.story_is_unchanged.Goals as goal

pub returns : goal.returns
returns c = record {
  silent = λ k next q leaves nothing. story_stays k.events k.past k.sys next k.client k.answered q k.story leaves.counts leaves.apart leaves.keeps nothing;
  others = others_apart;
  unsaid = others_silent;
}
