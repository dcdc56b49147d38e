use Rattle.std.proofs.Common.{ap, ◌∙◌}
use Rattle.sdb_model.specs.Transactions.{statements_by}
use Rattle.sdb_contents.specs.Commits.{executed_of}
use Rattle.check_tables.specs.Values.{all_made}
use Rattle.check_answers.proofs.Decided.{count_said, if_ok}
use Rattle.check_answers.proofs.CountLaws.{said_counted, said_miscounted}
use Rattle.check_answers.proofs.counts.is_executed_counted.Goals as goal

pub returns-then-miscounted : goal.returns-then-miscounted
returns-then-miscounted c =
    said_miscounted c.args.catalog.now c.args.events.now c.args.client (executed_of c.args.executed.now) c.as_slice-made.result.now (ap all_made c.as_slice-made.ensures ∙ c.in_ok-calls.ensures) c.in_ok-miscounted.miscounted c.len.result (c.len.ensures ∙ count_said c.in_ok-all.all (statements_by c.args.client c.args.events.now) c.in_ok-all.ensures) c.in_ok-miscounted.ensures c.if-miscounted.true

pub returns : goal.returns
returns c =
    if_ok c.others_counted.result (λ b h. said_counted c.args.catalog.now c.args.events.now c.args.client (executed_of c.args.executed.now) c.as_slice-made.result.now (ap all_made c.as_slice-made.ensures ∙ c.in_ok-calls.ensures) b c.in_ok-miscounted.miscounted c.len.result (c.len.ensures ∙ count_said c.in_ok-all.all (statements_by c.args.client c.args.events.now) c.in_ok-all.ensures) c.in_ok-miscounted.ensures c.if-miscounted.false h) c.others_counted.ensures
