use Rattle.law_answers.proofs.Laws.{rolls_committed, rolls_lost, rolls_unknown, rolls_bad}
use Rattle.law_answers.proofs.commit_paths.rolls.Goals as goal

pub returns : goal.returns
returns c = record { committed = rolls_committed; lost = rolls_lost; unknown = rolls_unknown; bad = rolls_bad }
