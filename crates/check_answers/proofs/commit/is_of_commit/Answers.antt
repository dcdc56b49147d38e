use Rattle.std.proofs.Common.{ap, ◌∙◌}
use Rattle.sdb_model.specs.Transactions.{statements_by}
use Rattle.sdb_contents.specs.Commits.{executed_of}
use Rattle.check_tables.specs.Values.{all_made}
use Rattle.check_answers.proofs.Decided.{if_ok, of_commit, count_said}
use Rattle.check_answers.proofs.commit.is_of_commit.Goals as goal

pub returns : goal.returns
returns c =
    if_ok c.is_among_commits.result (λ b h. of_commit c.args.events.now c.args.client (executed_of c.args.executed.now) b c.as_slice.result.now c.len-count.result (ap all_made c.as_slice.ensures ∙ c.in_ok-calls.ensures) (c.len-count.ensures ∙ count_said c.in_ok-all.all (statements_by c.args.client c.args.events.now) c.in_ok-all.ensures) h) c.is_among_commits.ensures
