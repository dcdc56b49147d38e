use Rattle.check_answers.proofs.SameLaws.{alike_exact}
use Rattle.check_answers.proofs.same.is_answered_so.Goals as goal

pub returns-clause-same : goal.returns-clause-same
returns-clause-same c = alike_exact c.args.a.now c.args.b.now c.are_alike_in.result c.are_alike_in.ensures
