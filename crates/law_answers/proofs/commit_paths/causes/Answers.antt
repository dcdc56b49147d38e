use Rattle.law_answers.proofs.Laws.{conflict_shown, conflict_unput, expired_given, starved_put}
use Rattle.law_answers.proofs.commit_paths.causes.Goals as goal

pub returns : goal.returns
returns c = record { conflict = conflict_shown; undecided = conflict_unput; expired = expired_given; out_of_memory = starved_put }
