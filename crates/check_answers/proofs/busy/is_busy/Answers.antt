use Rattle.std.proofs.Common.{◌≡◌, ap, ◌∙◌, rules}
use Rattle.sdb_contents.specs.Commits.{executed_of}
use Rattle.check_tables.specs.Values.{all_made}
use Rattle.check_answers.specs.Tests.{busy_among}
use Rattle.check_answers.proofs.Decided.{busy}
use Rattle.check_answers.proofs.busy.is_busy.Goals as goal

pub returns : goal.returns
returns c =
    let f : c.busy_among.result ≡ busy_among c.args.events.now c.as_slice.result.now c.args.key.now c.args.id c.in_ok-row.row c.args.at = search rules in
    busy c.args.events.now c.args.client (executed_of c.args.executed.now) c.busy_among.result c.as_slice.result.now c.args.key.now c.in_ok-row.row c.args.id c.args.at (ap all_made c.as_slice.ensures ∙ c.in_ok-calls.ensures) c.in_ok-row.ensures f
