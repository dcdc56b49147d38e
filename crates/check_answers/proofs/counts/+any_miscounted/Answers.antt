use Rattle.std.proofs.Common.{◌∙◌}
use Rattle.sdb_contents.specs.Commits.{executed_of}
use Rattle.check_answers.proofs.Decided.{if_ok}
use Rattle.check_answers.specs.Counts.{miscounted}
use Rattle.check_answers.proofs.CountLaws.{found_wrong, none_here}
use Rattle.check_answers.proofs.counts.+any_miscounted.Goals as goal

pub returns-then-wrong : goal.returns-then-wrong
returns-then-wrong t c = found_wrong (miscounted c.args.events.now c.args.client (executed_of c.args.executed.now) c.args.calls.now) c.args.client c.args.count c.id_of.result c.in_ok-wrong.wrong c.if-count-eq0.false c.id_of.ensures c.in_ok-wrong.ensures c.if-wrong.true

pub returns : goal.returns
returns t c = if_ok c.any_miscounted.result (λ b h. h ∙ none_here (miscounted c.args.events.now c.args.client (executed_of c.args.executed.now) c.args.calls.now) c.args.client c.args.count c.id_of.result c.in_ok-wrong.wrong c.if-count-eq0.false c.id_of.ensures c.in_ok-wrong.ensures c.if-wrong.false) c.any_miscounted.ensures
