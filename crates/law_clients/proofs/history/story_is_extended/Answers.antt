use Rattle.law_clients.proofs.Answered.{story_answers, story_begins, story_ends}
use Rattle.law_clients.proofs.history.story_is_extended.Goals as goal

pub returns : goal.returns
returns c = record {
  ordinary = λ k next q s is comes leaves. story_answers k.events k.past k.sys next k.client k.answered q s k.story is comes.may comes.ordinary leaves.counts leaves.apart leaves.keeps;
  begins = λ k next text t.
      let b = t.begins in
      story_begins k.events k.past k.sys next k.client k.answered b.gap text k.story t.none_waits b.closed b.begin b.client b.ordinal b.fresh b.hold;
  ends = λ k next q s is e. story_ends k.events k.past k.sys next k.client k.answered q s e.gap e.begin e.body k.story e.opened is e.plain e.over e.ending e.names e.counts e.apart e.hold;
}
