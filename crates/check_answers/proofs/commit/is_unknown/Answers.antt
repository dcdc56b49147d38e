use Rattle.std.proofs.Common.{ap, ◌∙◌}
use Rattle.sdb_contents.specs.Commits.{executed_of}
use Rattle.check_tables.specs.Values.{all_made}
use Rattle.check_answers.proofs.Decided.{unknown, not_unknown}
use Rattle.check_answers.proofs.commit.is_unknown.Goals as goal

pub returns-then-commits : goal.returns-then-commits
returns-then-commits c =
    unknown c.args.events.now c.args.client (executed_of c.args.executed.now) c.unknown_among.result c.in_ok-commits.commits c.as_slice.result.now c.in_ok-row.row c.args.id (ap all_made c.as_slice.ensures ∙ c.in_ok-calls.ensures) c.in_ok-row.ensures c.in_ok-commits.ensures c.if-commits.true c.unknown_among.ensures

pub returns : goal.returns
returns c = not_unknown c.args.events.now c.args.client (executed_of c.args.executed.now) c.in_ok-commits.commits c.args.id c.in_ok-commits.ensures c.if-commits.false
