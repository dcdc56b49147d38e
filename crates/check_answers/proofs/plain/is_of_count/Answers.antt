use Rattle.std.proofs.Common.{false, ap, ◌∙◌}
use Rattle.std.specs.Option.{option_map_or}
use Rattle.sdb_contents.specs.Commits.{executed_of}
use Rattle.check_tables.specs.Values.{all_made}
use Rattle.check_answers.specs.Tests.{counts_so}
use Rattle.check_answers.proofs.ReadLaws.{of_count}
use Rattle.check_answers.proofs.plain.is_of_count.Goals as goal

pub returns : goal.returns
returns c =
    of_count c.args.events.now c.args.client (executed_of c.args.executed.now) c.as_slice.result.now (ap all_made c.as_slice.ensures ∙ c.in_ok-calls.ensures) c.args.count c.in_ok-statement.statement c.in_ok-statement.ensures c.counts_so.result
    (c.counts_so.ensures ∙ ap (λ n. option_map_or (counts_so n c.args.count) c.in_ok-statement.statement false) c.removed-removed.ensures.count)
