use Rattle.std.proofs.Common.{sym, ◌∙◌}
use Rattle.check_protocol.proofs.Public.{none_some}
use Rattle.check_answers.proofs.Decided.{if_ok}
use Rattle.check_answers.proofs.TurnedLaws.{turned_neither, turned_read, turned_unread}
use Rattle.check_answers.proofs.turned.turned_away.Goals as goal

pub returns-in-Some : goal.returns-in-Some
returns-in-Some c =
    turned_unread c.args.catalog.now c.args.past.now c.args.client c.args.text.now c.in-Some.refusal (c.one_reading.ensures.refusal c.args.text.now) (c.one_reading.ensures.either c.args.text.now) ((c.in_ok-refusal.ensures c.in-Some.refusal).1 c.in-Some.is)

pub returns-in-Some-2 : goal.returns-in-Some-2
returns-in-Some-2 c =
    if_ok c.turned_by.result (λ o h. turned_read c.args.catalog.now c.args.past.now c.args.client c.args.text.now c.in-Some-2.statement o (c.one_reading.ensures.statement c.args.text.now) (c.one_reading.ensures.either c.args.text.now) ((c.in_ok-statement-in-None.ensures c.in-Some-2.statement).1 c.in-Some-2.is) h) c.turned_by.ensures

pub returns-in-None-2 : goal.returns-in-None-2
returns-in-None-2 c =
    turned_neither c.args.catalog.now c.args.past.now c.args.client c.args.text.now (λ r f. none_some (sym c.in-None.is ∙ (c.in_ok-refusal.ensures r).0 f)) (λ st h. none_some (sym c.in-None-2.is ∙ (c.in_ok-statement-in-None.ensures st).0 h))
