use Rattle.law_answers.proofs.Laws.{rolling_forward, rolling_back, next_back}
use Rattle.law_answers.proofs.commit_paths.rolling.Goals as goal

pub returns : goal.returns
returns c = record { forward = rolling_forward; back = rolling_back; next = next_back }
