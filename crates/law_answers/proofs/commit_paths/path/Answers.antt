use Rattle.law_answers.proofs.PathCalls.{replies_are, made_fit, learned_committed, learned_aborted}
use Rattle.law_answers.proofs.Laws.{begins_so}
use Rattle.law_answers.proofs.commit_paths.path.Goals as goal

pub returns : goal.returns
returns c = record { replies = replies_are; fits = made_fit; begins = begins_so; committed = learned_committed; aborted = learned_aborted }
