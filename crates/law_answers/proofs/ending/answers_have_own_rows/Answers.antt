use Rattle.law_answers.proofs.OwnRowsWhole.{answers_own, rows_shown}
use Rattle.law_answers.proofs.ending.answers_have_own_rows.Goals as goal

pub returns-clause-each : goal.returns-clause-each
returns-clause-each x = rows_shown

pub returns-clause-all : goal.returns-clause-all
returns-clause-all x = answers_own
