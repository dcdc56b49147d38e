use Rattle.sdb_contents.specs.Commits.{executed_of}
use Rattle.check_answers.proofs.Decided.{if_ok}
use Rattle.check_answers.proofs.ReadLaws.{of_duplicate}
use Rattle.check_answers.proofs.plain.is_of_duplicate.Goals as goal

pub returns : goal.returns
returns c = if_ok c.inserts.result (λ b h. of_duplicate (executed_of c.args.executed.now) c.in_ok-statement.statement c.in_ok-statement.ensures c.args.catalog.now c.args.key.now b h) c.inserts.ensures
