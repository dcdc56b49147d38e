use Rattle.sdb_contents.specs.Commits.{executed_of}
use Rattle.check_answers.proofs.ReadLaws.{of_done}
use Rattle.check_answers.proofs.plain.is_of_done.Goals as goal

pub returns : goal.returns
returns c = of_done (executed_of c.args.executed.now) c.in_ok-statement.statement c.in_ok-statement.ensures c.is_done.result c.is_done.ensures
