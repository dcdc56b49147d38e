use Rattle.std.proofs.Common.{subst}
use Rattle.sdb_contents.specs.Commits.{executed_of}
use Rattle.check_answers.specs.Tests.{IsTurned}
use Rattle.check_answers.proofs.CausedLaws.{due, not_due}
use Rattle.check_answers.proofs.caused.is_turned_if_due.Goals as goal

pub returns-in-Some : goal.returns-in-Some
returns-in-Some c =
    due c.args.catalog.now c.args.events.now c.args.client (executed_of c.args.executed.now) c.in_ok-turned.field-0 (subst (λ past. IsTurned c.args.catalog.now past c.args.client c.args.executed.now.text c.in_ok-turned.field-0) c.before-2.ensures c.in_ok-turned.ensures) c.is_answered_with.result c.in-Some.turned c.in-Some.is c.is_answered_with.ensures

pub returns-in-None : goal.returns-in-None
returns-in-None c =
    not_due c.args.catalog.now c.args.events.now c.args.client (executed_of c.args.executed.now) c.in_ok-turned.field-0 (subst (λ past. IsTurned c.args.catalog.now past c.args.client c.args.executed.now.text c.in_ok-turned.field-0) c.before-2.ensures c.in_ok-turned.ensures) c.in-None.is
