use Rattle.std.proofs.Common.{sym, subst}
use Rattle.sdb_model.specs.Transactions.{client_of, statements_of}
use Rattle.check_answers.proofs.Decided.{if_ok}
use Rattle.check_answers.specs.Turns.{AreTurns}
use Rattle.check_answers.proofs.AnswerLaws.{transaction}
use Rattle.check_answers.proofs.all.is_transaction_observed.Goals as goal

pub returns : goal.returns
returns c =
    let catalog = c.args.catalog.now in
    let events = c.args.events.now in
    let stores = c.args.stores.now in
    let ts = c.as_slice-all.result.now in
    if_ok c.answers_have_rows.result (λ b h.
    transaction catalog stores events c.args.id ts (subst (AreTurns events (client_of c.args.id) (statements_of events c.args.id)) (sym c.as_slice-all.ensures) c.in_ok-turns.ensures) b h
    ) c.answers_have_rows.ensures
