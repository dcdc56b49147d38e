use Rattle.std.proofs.Common.{◌∙◌}
use Rattle.sdb_model.specs.Transactions.{statements_by}
use Rattle.sdb_contents.specs.Commits.{executed_of}
use Rattle.check_answers.proofs.Decided.{if_ok, count_said}
use Rattle.check_answers.proofs.FullLaws.{most}
use Rattle.check_answers.proofs.full.may_pass_most.Goals as goal

pub returns : goal.returns
returns c =
    if_ok c.any_passes.result (λ b h. most c.args.events.now c.args.client (executed_of c.args.executed.now) c.in_ok-statement.statement c.in_ok-statement.ensures b c.len-count.result (c.len-count.ensures ∙ count_said c.in_ok-all.all (statements_by c.args.client c.args.events.now) c.in_ok-all.ensures) h) c.any_passes.ensures
