use Rattle.std.proofs.Common.{length}
use Rattle.check_answers.proofs.answer.+answers_have_rows.Given as goal

abbrev pub decreases-answers_have_rows : goal.decreases-answers_have_rows
decreases-answers_have_rows l = length l.some.now
