use Rattle.std.proofs.Common.{ap, ◌∙◌}
use Rattle.sdb_model.specs.Transactions.{statements_by}
use Rattle.sdb_contents.specs.Commits.{executed_of}
use Rattle.check_tables.specs.Values.{all_made}
use Rattle.check_answers.proofs.Decided.{conflict, if_ok, count_said}
use Rattle.check_answers.proofs.conflict.is_conflict.Goals as goal

pub returns : goal.returns
returns c =
    if_ok c.conflicts_among.result (λ b h. conflict c.args.events.now c.args.client (executed_of c.args.executed.now) b c.as_slice.result.now c.args.key.now c.args.found.now c.len-count.result (ap all_made c.as_slice.ensures ∙ c.in_ok-calls.ensures) (c.len-count.ensures ∙ count_said c.in_ok-all.all (statements_by c.args.client c.args.events.now) c.in_ok-all.ensures) h) c.conflicts_among.ensures
