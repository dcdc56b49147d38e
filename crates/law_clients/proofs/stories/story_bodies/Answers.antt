use Rattle.std.proofs.Common.{subst}
use Rattle.law_clients.specs.Story.{IsRest, Opened, statements_in}
use Rattle.law_clients.proofs.Places.{finished_body, open_body}
use Rattle.law_clients.proofs.Seeking.{is_last, said_with}
use Rattle.law_clients.proofs.stories.story_bodies.Goals as goal

pub returns : goal.returns
returns c = record {
  finished = λ x f at. finished_body x.events x.id x.whole (statements_in x.rest) x.k f x.same x.ordinal x.finished at;
  opened = λ x b inside is last. open_body x.events x.id x.whole is.gap b inside (said_with x (Opened is.gap b inside) is.opened) (is_last x last) x.finished (subst IsRest is.opened is.ok);
}
