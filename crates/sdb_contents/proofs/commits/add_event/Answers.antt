use Rattle.std.proofs.Common.{rules, ◌≡◌, true, ap, ◌∙◌}
use Rattle.std.specs.Prelude.{◌==◌}
use Rattle.sdb_contents.specs.Later.{or_earlier}
use Rattle.sdb_contents.proofs.Laters.{taken_step}
use Rattle.sdb_contents.proofs.commits.add_event.Goals as goal

pub returns-in_ok-add_statement-in-Take : goal.returns-in_ok-add_statement-in-Take
returns-in_ok-add_statement-in-Take c = λ es was.
    let its : (c.in-Take.taker == c.args.client) ≡ true = search rules in
    let kept = c.in_ok-add_statement-in-Take.ensures in
    rw c.in-Take.is (taken_step c.args.client c.args.number es c.args.later.now c.add_statement.new.later was c.in-Take.taker c.in-Take.text c.in-Take.answer c.last_of-outcome.result its
    (c.last_of-outcome.ensures ∙ ap (or_earlier c.args.later.now.outcome) c.given.ensures) kept.commits kept.first kept.outcome)
