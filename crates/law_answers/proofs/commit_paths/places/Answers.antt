use Rattle.law_answers.proofs.Laws.{prepared_at, checked_at, ready_at, learned_from}
use Rattle.law_answers.proofs.commit_paths.places.Goals as goal

pub returns : goal.returns
returns c = record { prepared = prepared_at; checked = checked_at; decides = ready_at; learned = learned_from }
