use Rattle.std.proofs.Common.{ap, ◌∙◌}
use Rattle.sdb_contents.specs.Commits.{executed_of}
use Rattle.check_tables.specs.Values.{all_made}
use Rattle.check_answers.proofs.Decided.{bad_found}
use Rattle.check_answers.proofs.bad.finds_bad.Goals as goal

pub returns : goal.returns
returns c = bad_found c.args.events.now c.args.client (executed_of c.args.executed.now) c.any_bad.result c.as_slice.result.now c.args.key.now (ap all_made c.as_slice.ensures ∙ c.in_ok-calls.ensures) c.any_bad.ensures
