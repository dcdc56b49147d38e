use Rattle.std.proofs.Common.{subst}
use Rattle.law_clients.specs.Story.{Closed, IsRest, Opened, statements_in}
use Rattle.law_clients.proofs.Places.{finished_is, none_is, open_is, past_is}
use Rattle.law_clients.proofs.Seeking.{is_last, said_with}
use Rattle.law_clients.proofs.stories.story_is_history.Goals as goal

pub returns : goal.returns
returns c = record {
  finished = λ x f at. finished_is x.events x.id x.whole (statements_in x.rest) x.k f x.same x.ordinal x.finished at;
  opened = λ x b body is last. open_is x.events x.id x.whole is.gap b body (said_with x (Opened is.gap b body) is.opened) (is_last x last) x.finished (subst IsRest is.opened is.ok);
  none = λ x gap closed ok late. none_is x.events x.id x.whole gap x.k (said_with x (Closed gap) closed) x.ordinal late x.finished (subst IsRest closed ok);
  past = λ x b body is late. past_is x.events x.id x.whole is.gap b body x.k (said_with x (Opened is.gap b body) is.opened) x.ordinal late x.finished (subst IsRest is.opened is.ok);
}
