use Rattle.std.proofs.Common.{ap, ◌∙◌}
use Rattle.sdb_contents.specs.Commits.{executed_of}
use Rattle.check_tables.specs.Values.{all_made}
use Rattle.check_answers.proofs.Decided.{replied}
use Rattle.check_answers.proofs.plain.has_fault.Goals as goal
use Rattle.sdb_types.specs.Replies.{is_fault}

pub returns : goal.returns
returns c = replied c.args.events.now c.args.client (executed_of c.args.executed.now) c.any.result c.as_slice.result.now is_fault (ap all_made c.as_slice.ensures ∙ c.in_ok-calls.ensures) c.any.ensures
