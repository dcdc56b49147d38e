use Rattle.std.proofs.Common.{◌≡◌, List, [], sym, ap, subst, ◌∙◌}
use Rattle.sdb_model.specs.Transactions.{Executed, client_of, from_begin, ordinal_of, rest_of, statements_by, through_end}
use Rattle.sdb_contents.specs.Commits.{all_executed}
use Rattle.check_answers.specs.Turns.{AreTurns}
use Rattle.check_answers.proofs.turn.turns_of.Goals as goal

pub returns : goal.returns
returns c =
    let events = c.args.events.now in
    let client = c.client_of-client.result in
    let since : List Executed = from_begin (ordinal_of c.args.id) (statements_by (client_of c.args.id) events) in
    let rest : all_executed c.rest_of.result.now ≡ rest_of since =
    c.rest_of.ensures
    ∙ ap rest_of (
    c.in_ok-since.ensures ∙ ap (λ ss. from_begin c.ordinal_of.result (all_executed ss)) c.as_slice.ensures ∙ ap (from_begin c.ordinal_of.result) c.in_ok-all.ensures
    ∙ ap (λ k. from_begin k (statements_by client events)) c.ordinal_of.ensures ∙ ap (λ n. from_begin (ordinal_of c.args.id) (statements_by n events)) c.client_of-client.ensures
    ) in
    subst (λ n. AreTurns events n (through_end (rest_of since)) c.add_turns.new.turns) c.client_of-client.ensures
    (subst (λ ss. AreTurns events client (through_end ss) c.add_turns.new.turns) rest (c.in_ok-add_turns.ensures [] (subst (AreTurns events client []) (sym c.new-turns.ensures) tt)))
